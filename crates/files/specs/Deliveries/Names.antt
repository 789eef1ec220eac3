-- A file of deliveries in which 2 and 3 find nothing: each of its parts is a graph file in which they find nothing; what a part is, and what 5, 7 and 8 find of it.
use Rattle.std.specs.Prelude.{◌≡◌, refl, ◌⊎◌, Bool, true, false, not, cond, ◌&&◌, ◌||◌, List, ℕ, suc, ◌+◌, ◌-◌, ◌*◌, ◌≤◌, ◌<◌, T, leb, ltb, eqb, take, drop, Ok, Err}
use Rattle.std.proofs.Common.{sym, ap, ap₂, subst, subst₂, ◌∙◌, inl, inr, zero-add, add-one, arith, eq-eqb, ne_eqb}
use Rattle.std.proofs.Math.Bool.{or-false}
use Rattle.std.proofs.Math.Option.{Option, none, some}
use Rattle.std.proofs.Math.Decide.{ℕ_discrete}
use Rattle.std.proofs.Math.Dec.{not_T}
use Rattle.files.specs.Basics.First.{first_where, first_finds, first_never, finds_unique}
use Rattle.files.specs.Basics.Least.{least_is}
use Rattle.files.specs.Basics.Tests.{and_i, or_l, or_r, any, upto}
use Rattle.files.specs.Checking.{test, found_at, lowest, Sound, over_with}
use Rattle.files.specs.Checking.Laws.{found_first, counted_is, named_is}
use Rattle.files.specs.Checking.Reads.{five_agrees}
use Rattle.files.specs.Deliveries.{opens, own_start, own_end, opened, own_part, own_number, own_method, Unopened, delivery_misplaced, delivery_wrong, delivery_disordered, delivery_past, foreign_node, delivery_crossing}
use Rattle.files.specs.Deliveries.Parts.{open_e, open_i, part_is, number_is, closed_is, end_to, end_from, opened_count, opened_record, owned, Owned, start_is, start_opens, start_stays}
use Rattle.files.specs.Deliveries.Steps.{delivery_test, delivery_named_is, delivery_lowest_is}
use Rattle.files.specs.Outcome.{refusal_at, Passed, Settled}
use Rattle.files.specs.Places.{record_len}
use Rattle.files.specs.Record.{record_at, count, kind_at, wrong}
use Rattle.files.specs.Refusal.{graph, nodes_of, method_at, misplaced, passed, past, crossing}
use Rattle.files.specs.declared.parts.Part.{Part}
use Rattle.files.specs.declared.record.Limits.{Limits}
use Rattle.files.specs.declared.record.Record.{Record}
use Rattle.files.specs.declared.refusal.Refusal.{Refusal}

pub record SoundParts (l : List ℕ) : Type 0 where
  pub none_misplaced : first_where (delivery_misplaced l) (count l) ≡ none
  pub none_wrong : first_where (λ i. delivery_wrong (record_at l i)) (count l) ≡ none

-- the delivery that starts at record a
pub record PartAt (l : List ℕ) (a : ℕ) (p : Part) : Type 0 where
  pub start_at : p.start ≡ a
  pub end_at : p.end ≡ own_end l a
  pub nodes_at : p.nodes ≡ nodes_of (opened l a)

-- the delivery of record i, if any opening stands before it
abbrev pub Held : List ℕ → ℕ → Part → Type 0
Held l i p = (p.start ≡ own_start l i) × ((own_start l i ≡ 0 → ⊥) → PartAt l (own_start l i) p)

-- record i lies in the part, which is a sound graph with its nodes counted and ends within the file
pub record LiesIn (l : List ℕ) (i : ℕ) (p : Part) : Type 0 where
  pub from_start : p.start ≤ i
  pub to_end : i < p.end
  pub end_in : p.end ≤ count l
  pub is_part : take (record_len * p.end - record_len * p.start) (drop (record_len * p.start) l) ≡ opened l p.start
  pub part_is_sound : Sound graph (opened l p.start)
  pub nodes_are : p.nodes ≡ nodes_of (opened l p.start)
  pub number_within : i - p.start < count (opened l p.start)

-- 5 of record o, if it opens a delivery
abbrev pub opening_passed : Limits → List ℕ → ℕ → Bool
opening_passed L l o = opens l o && passed L graph (opened l (suc o))

none_where : (p : ℕ → Bool) (n : ℕ) → ((i : ℕ) → i < n → T (p i) → ⊥) → first_where p n ≡ none
none_where p n f = finds_unique (λ i. (i < n) × T (p i)) (first_where p n) none (first_finds p n) (λ i a. f i a.0 a.1)

-- ---- a part is sound

module _ (l : List ℕ) (sound : SoundParts l) (o : ℕ) (h : o < count l) (six_o : kind_at l o ≡ 6) where
  abbrev P : List ℕ
  P = opened l (suc o)

  in_part : (j : ℕ) → j < count P → j < own_end l (suc o) - suc o
  in_part j k = omega (arith, opened_count l (suc o) h)

  in_file : (j : ℕ) → j < count P → suc o + j < count l
  in_file j k = omega (arith, in_part j k, end_to l (suc o) h)

  part_two : first_where (misplaced graph P) (count P) ≡ none
  part_two = none_where (misplaced graph P) (count P) (λ j k t. first_never (delivery_misplaced l) (count l) sound.none_misplaced (suc o + j) (in_file j k) (amiss j k t))
    where
      amiss : (j : ℕ) → j < count P → T (misplaced graph P j) → T (delivery_misplaced l (suc o + j))
      amiss j k t =
          let i = in_part j k in
          and_i (not (opens l (suc o + j))) _ (not_T (opens l (suc o + j)) (λ s. closed_is l o six_o j i (open_e l (suc o + j) s)))
          (or_r (eqb (own_start l (suc o + j)) 0) _ (subst₂ (λ (p : List ℕ) (n : ℕ). T (misplaced graph p n)) (sym (part_is l o six_o j i)) (sym (number_is l o six_o j i)) t))

  part_three : first_where (λ j. wrong (record_at P j)) (count P) ≡ none
  part_three =
      none_where (λ j. wrong (record_at P j)) (count P)
      (λ j k t. first_never (λ i. delivery_wrong (record_at l i)) (count l) sound.none_wrong (suc o + j) (in_file j k)
      (or_l (wrong (record_at l (suc o + j))) _ (subst (λ (r : Record). T (wrong r)) (opened_record l (suc o) j h (in_part j k)) t)))

  pub part_sound : Sound graph P
  part_sound = record { none_misplaced = part_two; none_wrong = part_three }

-- ---- where a part ends, and its bytes

pub end_is : (l : List ℕ) (a e : ℕ) → a ≤ e → e ≤ count l → ((i : ℕ) → a ≤ i → i < e → kind_at l i ≡ 6 → ⊥) → (e < count l → kind_at l e ≡ 6) → e ≡ own_end l a
end_is l a e h k f g =
    let j : a + (e - a) ≡ e = omega arith in
    sym j ∙ ap (λ (n : ℕ). a + n) (sym (least_is (λ (n : ℕ). opens l (a + n)) (count l - a) (e - a) (omega arith)
    (λ i b t. f (a + i) (omega arith) (omega arith) (open_e l (a + i) t))
    (λ b. subst (λ (n : ℕ). T (opens l n)) (sym j) (open_i l e (g (omega arith))))))

-- none opens from a on up to e, nor at e
pub none_more : (l : List ℕ) (a e : ℕ) → ((i : ℕ) → a ≤ i → i < e → kind_at l i ≡ 6 → ⊥) → (kind_at l e ≡ 6 → ⊥) → (i : ℕ) → a ≤ i → i < e + 1 → kind_at l i ≡ 6 → ⊥
none_more l a e f g i h k = go (ℕ_discrete i e)
  where
    go : Dec (i ≡ e) → kind_at l i ≡ 6 → ⊥
    go (yes d) q = g (ap (kind_at l) (sym d) ∙ q)
    go (no d) q = f i h (omega arith) q

pub part_bytes : (l : List ℕ) (a e : ℕ) → a ≤ e → e ≡ own_end l a → take (record_len * e - record_len * a) (drop (record_len * a) l) ≡ opened l a
part_bytes l a e h d = let k : record_len * e - record_len * a ≡ record_len * (own_end l a - a) = omega (arith, d) in ap (λ (n : ℕ). take n (drop (record_len * a) l)) k

-- ---- 5

pub part_passed : (L : Limits) (l : List ℕ) (sound : SoundParts l) (o : ℕ) → o < count l → kind_at l o ≡ 6 → (p : Part) → PartAt l (suc o) p
    → over_with L graph p.nodes (p.end - p.start) ≡ passed L graph (opened l (suc o))
part_passed L l sound o h six_o p at =
    ap₂ (over_with L graph) (at.nodes_at ∙ sym (counted_is graph (opened l (suc o)))) size ∙ five_agrees L graph (opened l (suc o)) (part_sound l sound o h six_o)
  where
    size : p.end - p.start ≡ count (opened l (suc o))
    size = ap₂ ◌-◌ at.end_at at.start_at ∙ sym (opened_count l (suc o) h)

pub passed_more : (p : ℕ → Bool) (i : ℕ) (b c : Bool) → b ≡ p i → c ≡ any p (upto i) → (b || c) ≡ any p (upto (i + 1))
passed_more p i b c e d = ap₂ ◌||◌ e d ∙ ap (λ (n : ℕ). any p (upto n)) (sym (add-one i))

-- ---- 7 and 8 of a record that opens nothing

no_and : (b : Bool) → (b && false) ≡ false
no_and true = refl
no_and false = refl

module _ (l : List ℕ) (sound : SoundParts l) (i : ℕ) (h : i < count l) (closed : kind_at l i ≡ 6 → ⊥) where
  pub begun : own_start l i ≡ 0 → ⊥
  begun z =
      first_never (delivery_misplaced l) (count l) sound.none_misplaced i h
      (and_i (not (opens l i)) _ (not_T (opens l i) (λ t. closed (open_e l i t))) (or_l (eqb (own_start l i) 0) _ (subst T (sym (eq-eqb (own_start l i) 0 z)) tt)))

  -- the opening before it, and its place behind that
  own : Owned l i
  own = go (owned l i h closed)
    where
      go : Owned l i ⊎ ((own_start l i ≡ 0) × Unopened l i) → Owned l i
      go (inl s) = s
      go (inr u) = absurd (begun u.0)

  start_own : own_start l i ≡ suc own.opening
  start_own = ap (own_start l) own.place_is ∙ start_is l own.opening own.is_open own.place own.place_in

  pub start_before : own_start l i ≤ i
  start_before = omega (arith, start_own, own.opening_before)

  in_own : i < own_end l (own_start l i)
  in_own = subst (λ (a : ℕ). i < own_end l a) (sym start_own) (omega (arith, own.place_is, own.place_in, end_from l (suc own.opening)))

  own_end_in : own_end l (own_start l i) ≤ count l
  own_end_in = end_to l (own_start l i) (omega (arith, start_before))

  own_sound : Sound graph (own_part l i)
  own_sound = subst (λ (a : ℕ). Sound graph (opened l a)) (sym start_own) (part_sound l sound own.opening (omega (arith, own.opening_before)) own.is_open)

  number_in : own_number l i < count (own_part l i)
  number_in = omega (arith, opened_count l (own_start l i) (omega (arith, start_before)), in_own, start_before)

  pub held_within : (p : Part) → Held l i p → LiesIn l i p
  held_within p (e, f) =
      let at = f begun in
      record {
        from_start = omega (arith, e, start_before);
        to_end = omega (arith, at.end_at, in_own);
        end_in = omega (arith, at.end_at, own_end_in);
        is_part = part_bytes l p.start p.end (omega (arith, e, at.end_at, start_before, in_own)) (at.end_at ∙ ap (own_end l) (sym e));
        part_is_sound = subst (λ (a : ℕ). Sound graph (opened l a)) (sym e) own_sound;
        nodes_are = at.nodes_at ∙ ap (λ (a : ℕ). nodes_of (opened l a)) (sym e);
        number_within = subst (λ (a : ℕ). i - a < count (opened l a)) (sym e) number_in;
      }

  own_record : record_at (own_part l i) (own_number l i) ≡ record_at l i
  own_record =
      let e : own_start l i + own_number l i ≡ i = omega (arith, start_before) in
      opened_record l (own_start l i) (own_number l i) (omega (arith, start_before)) (omega (arith, in_own, start_before)) ∙ ap (record_at l) e

  shut : opens l i ≡ false
  shut = ne_eqb (kind_at l i) 6 closed

  own_kind : kind_at (own_part l i) (own_number l i) ≡ kind_at l i
  own_kind = ap (λ (r : Record). r.kind) own_record

  -- a node names nothing, and is of its opening's method or not
  module _ (one : kind_at l i ≡ 1) (position a b : ℕ) (a_is : a ≡ (record_at l i).first) (b_is : b ≡ own_method l i) where
    no_edge_here : eqb (kind_at (own_part l i) (own_number l i)) 2 ≡ false
    no_edge_here = ne_eqb (kind_at (own_part l i) (own_number l i)) 2 (λ e. omega (arith, own_kind, one, e))

    node_past : delivery_past l i ≡ false
    node_past =
        let beyond : Bool = leb (nodes_of (own_part l i)) (record_at (own_part l i) (own_number l i)).first
        || leb (nodes_of (own_part l i)) (record_at (own_part l i) (own_number l i)).third in
        ap (λ (c : Bool). not (opens l i) && (c && beyond)) no_edge_here ∙ no_and (not (opens l i))

    node_crossing : delivery_crossing l i ≡ not (eqb a b)
    node_crossing =
        let edge : Record = record_at (own_part l i) (own_number l i) in
        let between : Bool = ltb edge.first (nodes_of (own_part l i)) && (ltb edge.third (nodes_of (own_part l i))
        && not (eqb (method_at (own_part l i) edge.third) (method_at (own_part l i) edge.first))) in
        ap₂ (λ (c d : Bool). not c && ((d && between) || foreign_node l i)) shut no_edge_here
        ∙ ap (λ (c : Bool). c && not (eqb (record_at l i).first (own_method l i))) (eq-eqb (kind_at l i) 1 one)
        ∙ ap₂ (λ (x y : ℕ). not (eqb x y)) (sym a_is) (sym b_is)

    pub node_own : a ≡ b → Passed ≡ found_at 2 7 (delivery_test l) 0 position i
    node_own e = rw (delivery_named_is l position i, node_past, node_crossing, eq-eqb a b e) refl

    pub node_foreign : (a ≡ b → ⊥) → (x : Refusal) → x ≡ refusal_at 8 position i → Err x ≡ found_at 2 7 (delivery_test l) 0 position i
    node_foreign e x d = rw (delivery_named_is l position i, node_past, node_crossing, ne_eqb a b e, zero-add i) (ap Err d)

  -- an edge is named in the graph that its delivery is
  module _ (other : kind_at l i ≡ 1 → ⊥) (position : ℕ) where
    not_node : foreign_node l i ≡ false
    not_node = ap (λ (c : Bool). c && not (eqb (record_at l i).first (own_method l i))) (ne_eqb (kind_at l i) 1 other)

    pub edge_named : found_at 2 7 (test graph (own_part l i)) (own_start l i) position (own_number l i) ≡ found_at 2 7 (delivery_test l) 0 position i
    edge_named =
        named_is graph (own_part l i) (own_start l i) position (own_number l i)
        ∙ ap (λ (n : ℕ). told n (past graph (own_part l i) (own_number l i)) (crossing graph (own_part l i) (own_number l i))) place
        ∙ ap₂ (told (0 + i)) past_is crossing_is
        ∙ sym (delivery_named_is l position i)
      where
        told : ℕ → Bool → Bool → Settled
        told n b c = cond b (Err (refusal_at 7 position n)) (cond c (Err (refusal_at 8 position n)) Passed)

        place : own_start l i + own_number l i ≡ 0 + i
        place = let e : own_start l i + own_number l i ≡ i = omega (arith, start_before) in e ∙ sym (zero-add i)

        past_is : past graph (own_part l i) (own_number l i) ≡ delivery_past l i
        past_is = sym (ap (λ (c : Bool). not c && past graph (own_part l i) (own_number l i)) shut)

        crossing_is : crossing graph (own_part l i) (own_number l i) ≡ delivery_crossing l i
        crossing_is =
            sym (or-false (crossing graph (own_part l i) (own_number l i)))
            ∙ sym (ap₂ (λ (c d : Bool). not c && (crossing graph (own_part l i) (own_number l i) || d)) shut not_node)

    -- by the part that the code holds, and its bytes
    pub edge_held : (p : Part) → Held l i p → (Q : List ℕ) → Q ≡ opened l p.start
        → found_at 2 7 (test graph Q) p.start position (i - p.start) ≡ found_at 2 7 (delivery_test l) 0 position i
    edge_held p held Q e =
        ap (λ (q : List ℕ). found_at 2 7 (test graph q) p.start position (i - p.start)) e
        ∙ ap (λ (a : ℕ). found_at 2 7 (test graph (opened l a)) a position (i - a)) held.0
        ∙ edge_named

-- ---- an opening names nothing

pub opening_names_none : (l : List ℕ) (position i : ℕ) → kind_at l i ≡ 6 → Passed ≡ found_at 2 7 (delivery_test l) 0 position i
opening_names_none l position i e = rw (delivery_named_is l position i, e) refl

-- ---- the part of the next record

pub held_none : (l : List ℕ) (p : Part) → p.start ≡ 0 → Held l 0 p
held_none l p e = (e, λ f. absurd (f refl))

pub held_opens : (l : List ℕ) (i : ℕ) → kind_at l i ≡ 6 → (p : Part) → PartAt l (i + 1) p → Held l (i + 1) p
held_opens l i e p at =
    let s : own_start l (i + 1) ≡ i + 1 = ap (own_start l) (add-one i) ∙ start_opens l i e ∙ sym (add-one i) in
    (at.start_at ∙ sym s, λ f. subst (λ (a : ℕ). PartAt l a p) (sym s) at)

pub held_stays : (l : List ℕ) (i : ℕ) → (kind_at l i ≡ 6 → ⊥) → (p : Part) → Held l i p → Held l (i + 1) p
held_stays l i c p held =
    let s : own_start l (i + 1) ≡ own_start l i = ap (own_start l) (add-one i) ∙ start_stays l i c in
    subst (λ (a : ℕ). (p.start ≡ a) × ((a ≡ 0 → ⊥) → PartAt l a p)) (sym s) held

-- ---- where 2 to 4 find nothing

is_found : Settled → Bool
is_found (Ok u) = false
is_found (Err r) = true

pub unfound_parts : (l : List ℕ) (position : ℕ) → lowest 3 2 (delivery_test l) 0 position (count l) ≡ Passed → SoundParts l
unfolding is_found
unfound_parts l position e = go (first_where (delivery_misplaced l) (count l)) (first_where (λ i. delivery_wrong (record_at l i)) (count l)) refl refl (sym (delivery_lowest_is l position (count l)) ∙ e)
  where
    no_find : (n i : ℕ) → Err (refusal_at n position (0 + i)) ≡ Passed → ⊥
    no_find n i q = subst T (ap is_found q) tt

    go : (a b : Option ℕ) → first_where (delivery_misplaced l) (count l) ≡ a → first_where (λ i. delivery_wrong (record_at l i)) (count l) ≡ b
        → found_first 2 0 position a (found_first 3 0 position b (found_first 4 0 position (first_where (delivery_disordered l) (count l)) Passed)) ≡ Passed → SoundParts l
    go (some i) b d f q = absurd (no_find 2 i q)
    go none (some i) d f q = absurd (no_find 3 i q)
    go none none d f q = record { none_misplaced = d; none_wrong = f }
