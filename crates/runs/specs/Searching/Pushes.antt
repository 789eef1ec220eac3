-- Looking at one record: where its place was met nothing changes, else it makes an item; either way it is no longer due, and all that is known of the search is kept.
use Rattle.std.specs.Prelude.{◌≡◌, ◌⊎◌, Bool, not, cond, ℕ, suc, ◌+◌, ◌*◌, ◌/◌, ◌≤◌, ◌<◌, eqb, length, get_or}
use Rattle.std.proofs.Math.Path.{refl}
use Rattle.std.proofs.Common.{sym, ap, ap₂, subst, ◌∙◌, inl, inr, add-zero, eq-or-lt_of_le, le_of_suc-le-suc, add-one, arith, T_not, ne_eqb}
use Rattle.std.proofs.Math.Bool.{true, false}
use mathlib.Core.List.Memᴰ
use mathlib.Core.List.{List, ◌∷◌, Memᴰ}
use Rattle.std.proofs.Math.Decide.{ℕ_discrete}
use Rattle.std.proofs.Math.Dec.{T}
use Rattle.files.specs.Basics.Lexical.{Before, before_irrefl, before_trans}
use Rattle.files.specs.Basics.Tables.{tally_le}
use Rattle.files.specs.Basics.Tests.{eq_eqb, T_eq}
use Rattle.files.specs.Cells.{cell, put_cell, has_bit, put_bit, put_at}
use Rattle.files.specs.Cells.Laws.{length_put_cell, byte_outside, cell_same, cell_other, cell_agree, length_put_bit, bit_same, bit_other, bit_outside, bit_byte, length_put_at, at_inside, at_outside}
use Rattle.files.specs.Graph.{Graph, size}
use Rattle.files.specs.Places.{max_edges, record_len, max_nodes}
use Rattle.files.specs.Rules.{Monitor}
use Rattle.judging.specs.Ranking.Stores.{tally_one, tally_room}
use Rattle.runs.specs.Forward.{Searched, Met, fewer_due, found_more}
use Rattle.runs.specs.Prepared.Files.{tables_kept}
use Rattle.runs.specs.Regions.{entered_base, parents_base, parents_end, points, seen_base, watch_room}
use Rattle.runs.specs.Summary.{Place}
use Rattle.runs.specs.Summary.Trails.{Rec, trail_rec_bytes, Where, before, here, end, leaving}
use Rattle.runs.specs.Searching.{item, parent, item_end, seen, places_seen, with_item, pushed, pushed_tail, Sooner, Searching, Leaving}

-- a record is known by its bytes
pub one_record : (r s : Rec) → trail_rec_bytes r ≡ trail_rec_bytes s → r ≡ s
one_record r s e = λ i. record {
  at = ap (λ (l : List ℕ). get_or l 0 0) e i;
  state = ap (λ (l : List ℕ). get_or l 1 0) e i;
  step = ap (λ (l : List ℕ). get_or l 2 0) e i;
  label = ap (λ (l : List ℕ). get_or l 3 0) e i;
  to = ap (λ (l : List ℕ). get_or l 4 0) e i;
  now = ap (λ (l : List ℕ). get_or l 5 0) e i;
}

pub item_same : (w w' : List ℕ) (i : ℕ) → ((q : ℕ) → record_len * i ≤ q → q < record_len * i + record_len → get_or w' q 0 ≡ get_or w q 0) → item w' i ≡ item w i
item_same w w' i f = λ t. record {
  at = f (record_len * i) (omega arith) (omega arith) t;
  state = f (record_len * i + 1) (omega arith) (omega arith) t;
  step = f (record_len * i + 2) (omega arith) (omega arith) t;
  label = f (record_len * i + 3) (omega arith) (omega arith) t;
  to = f (record_len * i + 4) (omega arith) (omega arith) t;
  now = f (record_len * i + 5) (omega arith) (omega arith) t;
}

-- ---- one item more

module _ (w : List ℕ) (tail head : ℕ) (r : Rec) (room : watch_room ≤ length w) (few : tail ≤ points) (below : head < tail) (to_small : r.to < 256) (now_small : r.now < 8) where
  abbrev bytes : List ℕ
  bytes = trail_rec_bytes r

  abbrev first : List ℕ
  first = put_at w (record_len * tail) bytes

  abbrev second : List ℕ
  second = put_cell first parents_base 2 tail head

  abbrev place_bit : ℕ
  place_bit = 8 * r.to + r.now

  abbrev third : List ℕ
  third = with_item w tail head r

  fits : record_len * tail + record_len ≤ length w
  fits = omega arith

  long_first : length first ≡ length w
  long_first = length_put_at w (record_len * tail) bytes fits

  long_second : length second ≡ length w
  long_second = length_put_cell first parents_base 2 tail head ∙ long_first

  long_third : length third ≡ length w
  long_third = length_put_bit second seen_base place_bit ∙ long_second

  -- a byte that is none of the item's
  kept : (q : ℕ) → ((q < record_len * tail) ⊎ (record_len * tail + record_len ≤ q)) → ((q < parents_base + 2 * tail) ⊎ (parents_base + 2 * tail + 2 ≤ q)) → (q ≡ seen_base + place_bit / 8 → ⊥) → get_or third q 0 ≡ get_or w q 0
  kept q a b c = bit_outside second seen_base place_bit q c ∙ byte_outside first parents_base 2 tail head q b ∙ at_outside w (record_len * tail) bytes q a fits

  kept_low : (i : ℕ) → i < tail → (q : ℕ) → record_len * i ≤ q → q < record_len * i + record_len → get_or third q 0 ≡ get_or w q 0
  kept_low i l q a b = kept q (inl (omega arith)) (inl (omega arith)) (λ e. omega (arith, e))

  kept_mid : (q : ℕ) → parents_end ≤ q → q < seen_base → get_or third q 0 ≡ get_or w q 0
  kept_mid q a b = kept q (inr (omega arith)) (inr (omega arith)) (λ e. omega (arith, e))

  old_item : (i : ℕ) → i < tail → item third i ≡ item w i
  old_item i l = item_same w third i (kept_low i l)

  at_byte : (k : ℕ) → k < 6 → get_or third (record_len * tail + k) 0 ≡ get_or bytes k 0
  at_byte k h =
      bit_outside second seen_base place_bit (record_len * tail + k) (λ e. omega (arith, e)) ∙ byte_outside first parents_base 2 tail head (record_len * tail + k) (inl (omega arith)) ∙ at_inside w (record_len * tail) bytes k h fits

  new_item : item third tail ≡ r
  new_item = λ t. record {
    at = (ap (λ (q : ℕ). get_or third q 0) (sym (add-zero (record_len * tail))) ∙ at_byte 0 (omega arith)) t;
    state = at_byte 1 (omega arith) t;
    step = at_byte 2 (omega arith) t;
    label = at_byte 3 (omega arith) t;
    to = at_byte 4 (omega arith) t;
    now = at_byte 5 (omega arith) t;
  }

  parent_bytes : (i : ℕ) → i < suc tail → cell third parents_base 2 i ≡ cell second parents_base 2 i
  parent_bytes i l = cell_agree third second parents_base 2 i (λ q a b. bit_outside second seen_base place_bit q (λ e. omega (arith, e)))

  new_parent : parent third tail ≡ head
  new_parent = parent_bytes tail (omega arith) ∙ cell_same first parents_base 2 tail head (omega (arith, long_first)) (omega arith)

  old_parent : (i : ℕ) → i < tail → parent third i ≡ parent w i
  old_parent i l =
      parent_bytes i (omega arith) ∙ cell_other first parents_base 2 tail i head (λ e. omega arith)
      ∙ cell_agree first w parents_base 2 i (λ q a b. at_outside w (record_len * tail) bytes q (inr (omega arith)) fits)

  -- bits past the items are the old ones, but for the place's
  bit_in : (base h : ℕ) → seen_base ≤ base → has_bit second base h ≡ has_bit w base h
  bit_in base h b =
      bit_byte second w base base h
      (byte_outside first parents_base 2 tail head (base + h / 8) (inr (omega arith)) ∙ at_outside w (record_len * tail) bytes (base + h / 8) (inr (omega arith)) fits)

  new_seen : has_bit third seen_base place_bit ≡ true
  new_seen = bit_same second seen_base place_bit (omega (arith, long_second))

  old_seen : (h : ℕ) → (place_bit ≡ h → ⊥) → has_bit third seen_base h ≡ has_bit w seen_base h
  old_seen h n = bit_other second seen_base place_bit h n ∙ bit_in seen_base h (omega arith)

  old_entered : (h : ℕ) → has_bit third entered_base h ≡ has_bit w entered_base h
  old_entered h = bit_byte third second entered_base entered_base h (bit_outside second seen_base place_bit (entered_base + h / 8) (λ e. omega (arith, e))) ∙ bit_in entered_base h (omega arith)

  one_more : T (not (has_bit w seen_base place_bit)) → places_seen third ≡ suc (places_seen w)
  unfolding places_seen
  one_more f =
      tally_one (λ (h : ℕ). has_bit w seen_base h) (λ (h : ℕ). has_bit third seen_base h) place_bit points (omega arith) f (subst T (sym new_seen) tt) (λ j l n. old_seen j n)

pub seen_room : (w : List ℕ) (h : ℕ) → h < points → T (not (has_bit w seen_base h)) → places_seen w < points
unfolding places_seen
seen_room w h l f = tally_room (λ (h : ℕ). has_bit w seen_base h) h points l f

pub places_most : (w : List ℕ) → places_seen w ≤ points
unfolding places_seen
places_most w = tally_le (λ (h : ℕ). has_bit w seen_base h) points

-- (over plain numbers, since the tally is long)
pub few_by : (i t n : ℕ) → i < t → t ≤ suc n → n ≤ points → i ≤ points
few_by i t n a b c = omega arith

room_by : (t n : ℕ) → t ≤ suc n → n < points → t ≤ points
room_by t n a b = omega arith

suc_by : (t n k : ℕ) → t ≤ suc n → k ≡ suc n → suc t ≤ suc k
suc_by t n k a b = omega arith

-- ---- a record looked at

pub same_size : (r s : Rec) → length (trail_rec_bytes r) ≡ length (trail_rec_bytes s)
same_size r s = refl

here_at : (x y : Place) → here x ≡ here y → (x.at ≡ y.at) × (x.now ≡ y.now)
here_at x y e = (ap place_at e, ap place_now e)
  where
    place_at : Where → ℕ
    place_at before = 0
    place_at (here x) = x.at

    place_now : Where → ℕ
    place_now before = 0
    place_now (here x) = x.now

module _ (G : Graph) (mon : Monitor) (m : ℕ) (few_nodes : size G ≤ max_nodes) (few_edges : length G.edges ≤ max_edges) (head tail : ℕ) (r : Rec) (rs : List Rec) (w : List ℕ)
    (s : Searching G mon m head tail (r ∷ rs) w) (below : head < tail) (lv : Leaving G mon m head w r) (asc : (t : Rec) → Memᴰ t rs → Sooner r t) where
  low : (t : Rec) → Memᴰ t (r ∷ rs) → Before (trail_rec_bytes t) (trail_rec_bytes r) → ⊥
  low t k b = go (Memᴰ.cases_cons k)
    where
      go : (t ≡ r) ⊎ Memᴰ t rs → ⊥
      go (inl e) = before_irrefl (trail_rec_bytes r) (subst (λ (u : Rec). Before (trail_rec_bytes u) (trail_rec_bytes r)) e b)
      go (inr j) = before_irrefl (trail_rec_bytes r) (before_trans (trail_rec_bytes r) (trail_rec_bytes t) (trail_rec_bytes r) (asc t j) b)

  -- r is due no longer where its place is met
  drop_first : (tail' : ℕ) (point : ℕ → Where) (way : ℕ → List Rec) → Met tail' point (end r)
      → Searched (leaving G mon m) end trail_rec_bytes before head tail' point way (λ t. Memᴰ t (r ∷ rs))
      → Searched (leaving G mon m) end trail_rec_bytes before head tail' point way (λ t. Memᴰ t rs)
  drop_first tail' point way met f =
      fewer_due (leaving G mon m) end trail_rec_bytes same_size one_record before head tail' point way (λ t. Memᴰ t (r ∷ rs)) f (λ t. Memᴰ t rs)
      (λ t k. Memᴰ.tail k) (λ t l k. go t (Memᴰ.cases_cons k))
    where
      go : (t : Rec) → (t ≡ r) ⊎ Memᴰ t rs → Memᴰ t rs ⊎ Met tail' point (end t)
      go t (inl e) = inr (subst (λ (u : Rec). Met tail' point (end u)) (sym e) met)
      go t (inr k) = inl k

  pub look_seen : T (seen w r.to r.now) → Searching G mon m head tail rs w
  look_seen t = record {
    room = s.room;
    tables = s.tables;
    way = s.way;
    searched = drop_first tail (item_end w) s.way (s.seen_met r.to r.now lv.to_node lv.now_small t) s.searched;
    linked = s.linked;
    in_range = s.in_range;
    seen_met = s.seen_met;
    met_seen = s.met_seen;
    entered_seen = s.entered_seen;
    few = s.few;
  }

  module _ (new : T (not (seen w r.to r.now))) where
    abbrev w' : List ℕ
    w' = with_item w tail head r

    to_small : r.to < 256
    to_small = omega (arith, lv.to_node)

    pub tail_fits : tail ≤ points
    tail_fits = room_by tail (places_seen w) s.few (seen_room w (8 * r.to + r.now) (omega (arith, to_small, lv.now_small)) new)

    abbrev way' : ℕ → List Rec
    way' i = cond (eqb i tail) (r ∷ s.way head) (s.way i)

    way_new : way' tail ≡ r ∷ s.way head
    way_new = ap (λ (b : Bool). cond b (r ∷ s.way head) (s.way tail)) (T_eq (eqb tail tail) (eq_eqb tail tail refl))

    way_old : (i : ℕ) → i < tail → way' i ≡ s.way i
    way_old i l = ap (λ (b : Bool). cond b (r ∷ s.way head) (s.way i)) (ne_eqb i tail (λ e. omega arith))

    item_old : (i : ℕ) → i < tail → item w' i ≡ item w i
    item_old i l = old_item w tail head r s.room tail_fits below to_small lv.now_small i l

    item_new : item w' tail ≡ r
    item_new = new_item w tail head r s.room tail_fits below to_small lv.now_small

    end_old : (i : ℕ) → i < tail → item_end w' i ≡ item_end w i
    end_old i l = ap (λ (u : Rec). cond (eqb i 0) before (end u)) (item_old i l)

    end_new : item_end w' tail ≡ end r
    end_new = ap (λ (b : Bool). cond b before (end (item w' tail))) (ne_eqb tail 0 (λ e. omega arith)) ∙ ap end item_new

    fresh : Met tail (item_end w) (end r) → ⊥
    fresh k = T_not (seen w r.to r.now) new (s.met_seen r.to r.now lv.to_node lv.now_small k)

    found : Searched (leaving G mon m) end trail_rec_bytes before head (suc tail) (item_end w') way' (λ t. Memᴰ t (r ∷ rs))
    found =
        found_more (leaving G mon m) end trail_rec_bytes same_size one_record before head tail (item_end w) s.way (λ t. Memᴰ t (r ∷ rs)) s.searched
        below r lv.leaves low (Memᴰ.head refl) fresh (item_end w') way' (λ i l. (end_old i l, way_old i l)) end_new way_new

    seen_kept : (g q : ℕ) → T (seen w g q) → T (seen w' g q)
    seen_kept g q t = go (ℕ_discrete (8 * r.to + r.now) (8 * g + q))
      where
        go : Dec (8 * r.to + r.now ≡ 8 * g + q) → T (seen w' g q)
        go (yes e) = subst (λ (h : ℕ). T (has_bit w' seen_base h)) e (subst T (sym (new_seen w tail head r s.room tail_fits below to_small lv.now_small)) tt)
        go (no n) = subst T (sym (old_seen w tail head r s.room tail_fits below to_small lv.now_small (8 * g + q) n)) t

    pub look_new : Searching G mon m head (suc tail) rs w'
    look_new = record {
      room = omega (arith, long_third w tail head r s.room tail_fits below to_small lv.now_small, s.room);
      tables = tables_kept G mon w w' few_nodes few_edges (λ q a b. kept_mid w tail head r s.room tail_fits below to_small lv.now_small q (omega arith) (omega arith)) s.tables;
      way = way';
      searched = drop_first (suc tail) (item_end w') way' (tail, omega arith, end_new) found;
      linked = λ i z l. link i z (eq-or-lt_of_le (le_of_suc-le-suc l));
      in_range = λ i z l. range i z (eq-or-lt_of_le (le_of_suc-le-suc l));
      seen_met = λ g q hg hq t. met g q hg hq t (ℕ_discrete (8 * r.to + r.now) (8 * g + q));
      met_seen = λ g q hg hq k. is_seen g q hg hq k.0 k.2 (eq-or-lt_of_le (le_of_suc-le-suc k.1));
      entered_seen = λ l q n hl hq t e. seen_kept n q (s.entered_seen l q n hl hq (subst T (old_entered w tail head r s.room tail_fits below to_small lv.now_small (8 * l + q)) t) e);
      few = suc_by tail (places_seen w) (places_seen w') s.few (one_more w tail head r s.room tail_fits below to_small lv.now_small new);
    }
      where
        link : (i : ℕ) → 0 < i → (i ≡ tail) ⊎ (i < tail) → (parent w' i < i) × (way' i ≡ item w' i ∷ way' (parent w' i))
        link i z (inl e) =
            let p : parent w' i ≡ head = ap (parent w') e ∙ new_parent w tail head r s.room tail_fits below to_small lv.now_small in
            (omega (arith, p, e), ap way' e ∙ way_new ∙ ap₂ ◌∷◌ (sym (ap (item w') e ∙ item_new)) (sym (ap way' p ∙ way_old head below)))
        link i z (inr l) =
            let a = s.linked i z l in
            let p : parent w' i ≡ parent w i = old_parent w tail head r s.room tail_fits below to_small lv.now_small i l in
            (omega (arith, p, a.0), way_old i l ∙ a.1 ∙ ap₂ ◌∷◌ (sym (item_old i l)) (sym (ap way' p ∙ way_old (parent w i) (omega (arith, a.0)))))

        range : (i : ℕ) → 0 < i → (i ≡ tail) ⊎ (i < tail) → ((item w' i).to < size G) × ((item w' i).now < 8)
        range i z (inl e) = subst (λ (u : Rec). (u.to < size G) × (u.now < 8)) (sym (ap (item w') e ∙ item_new)) (lv.to_node, lv.now_small)
        range i z (inr l) = subst (λ (u : Rec). (u.to < size G) × (u.now < 8)) (sym (item_old i l)) (s.in_range i z l)

        met : (g q : ℕ) → g < size G → q < 8 → T (seen w' g q) → Dec (8 * r.to + r.now ≡ 8 * g + q) → Met (suc tail) (item_end w') (here (record { at = g; now = q }))
        met g q hg hq t (yes e) =
            let hn = lv.now_small in
            let a : r.to ≡ g = omega (arith, e, hn, hq) in
            let b : r.now ≡ q = omega (arith, e, hn, hq) in
            (tail, omega arith, end_new ∙ ap₂ (λ (i j : ℕ). here (record { at = i; now = j })) a b)
        met g q hg hq t (no n) =
            let a = s.seen_met g q hg hq (subst T (old_seen w tail head r s.room tail_fits below to_small lv.now_small (8 * g + q) n) t) in
            (a.0, omega (arith, a.1), end_old a.0 a.1 ∙ a.2)

        is_seen : (g q : ℕ) → g < size G → q < 8 → (k : ℕ) → item_end w' k ≡ here (record { at = g; now = q }) → (k ≡ tail) ⊎ (k < tail) → T (seen w' g q)
        is_seen g q hg hq k e (inl d) =
            let a = here_at (record { at = r.to; now = r.now }) (record { at = g; now = q }) (sym end_new ∙ ap (item_end w') (sym d) ∙ e) in
            subst (λ (h : ℕ). T (has_bit w' seen_base h)) (ap₂ (λ (i j : ℕ). 8 * i + j) a.0 a.1)
            (subst T (sym (new_seen w tail head r s.room tail_fits below to_small lv.now_small)) tt)
        is_seen g q hg hq k e (inr l) = seen_kept g q (s.met_seen g q hg hq (k, l, sym (end_old k l) ∙ e))

  -- either way
  pub looked : Searching G mon m head (pushed_tail w tail head r) rs (pushed w tail head r)
  unfolding pushed pushed_tail
  looked = go (seen w r.to r.now) refl
    where
      go : (b : Bool) → seen w r.to r.now ≡ b → Searching G mon m head (cond b tail (suc tail)) rs (cond b w (with_item w tail head r))
      go true e = look_seen (subst T (sym e) tt)
      go false e = look_new (subst (λ (b : Bool). T (not b)) (sym e) tt)

  -- the items stay
  pub pushed_end : (i : ℕ) → i < tail → item_end (pushed w tail head r) i ≡ item_end w i
  unfolding pushed
  pushed_end i l = go (seen w r.to r.now) refl
    where
      go : (b : Bool) → seen w r.to r.now ≡ b → item_end (cond b w (with_item w tail head r)) i ≡ item_end w i
      go true e = refl
      go false e = end_old (subst (λ (b : Bool). T (not b)) (sym e) tt) i l

pub pushed_longer : (w : List ℕ) (tail head : ℕ) (r : Rec) → tail ≤ pushed_tail w tail head r
unfolding pushed_tail
pushed_longer w tail head r = go (seen w r.to r.now)
  where
    go : (b : Bool) → tail ≤ cond b tail (suc tail)
    go true = omega arith
    go false = omega arith

-- as the code does it, b the test of the place
pub push_seen : (w : List ℕ) (tail head : ℕ) (r : Rec) (b : Bool) → b ≡ seen w r.to r.now → b ≡ true → (tail ≡ pushed_tail w tail head r) × (w ≡ pushed w tail head r)
unfolding pushed pushed_tail
push_seen w tail head r b e d =
    (sym (ap (λ (c : Bool). cond c tail (suc tail)) (sym e ∙ d)), sym (ap (λ (c : Bool). cond c w (with_item w tail head r)) (sym e ∙ d)))

pub push_new : (w w₁ w₂ w₃ : List ℕ) (tail head : ℕ) (r : Rec) (b : Bool) → b ≡ seen w r.to r.now → b ≡ false → w₁ ≡ put_at w (record_len * tail) (trail_rec_bytes r)
    → w₂ ≡ put_cell w₁ parents_base 2 tail head → w₃ ≡ put_bit w₂ seen_base (8 * r.to + r.now) → (tail + 1 ≡ pushed_tail w tail head r) × (w₃ ≡ pushed w tail head r)
unfolding pushed pushed_tail
push_new w w₁ w₂ w₃ tail head r b e d x y z = (
  add-one tail ∙ sym (ap (λ (c : Bool). cond c tail (suc tail)) (sym e ∙ d)),
  z ∙ ap (λ (v : List ℕ). put_bit v seen_base (8 * r.to + r.now)) (y ∙ ap (λ (v : List ℕ). put_cell v parents_base 2 tail head) x)
      ∙ sym (ap (λ (c : Bool). cond c w (with_item w tail head r)) (sym e ∙ d)),
)
