-- A method entered in a state once need not be entered in it again: all its entries are met. And what the summaries, by value, say of a call passed over.
use Rattle.std.specs.Prelude.{◌≡◌, refl, ◌⊎◌, cond, ℕ, suc, ◌+◌, ◌*◌, ◌-◌, ◌/◌, ◌^◌, ◌≤◌, ◌<◌, T, eqb, length, get_or}
use Rattle.std.proofs.Common.{sym, ap, ap₂, subst, ◌∙◌, inl, inr, arith, eqb→eq}
use mathlib.Core.List.Memᴰ
use mathlib.Core.List.{List, [], ◌∷◌, ◌++◌, Memᴰ}
use Rattle.std.proofs.Math.Decide.{ℕ_discrete}
use Rattle.files.specs.Basics.Lexical.{before_irrefl}
use Rattle.files.specs.Basics.Order.{Ascends}
use Rattle.files.specs.Basics.Tables.{tally_same}
use Rattle.files.specs.Basics.Tests.{any_i, any_e, same_test, eq_eqb}
use Rattle.files.specs.Cells.{has_bit, put_bit}
use Rattle.files.specs.Cells.Laws.{length_put_bit, bit_other, bit_outside, bit_byte, cell_agree}
use Rattle.files.specs.Graph.{Graph, Edge, size, Flow, EntryOf}
use Rattle.files.specs.Places.{max_edges, max_nodes}
use Rattle.files.specs.Rules.{Monitor, Event, calls, returns_to}
use Rattle.maximal.specs.Masks.{member}
use Rattle.maximal.specs.Masks.Laws.{member_one}
use Rattle.runs.specs.Forward.{Met, searched_same}
use Rattle.runs.specs.Prepared.Files.{tables_kept}
use Rattle.runs.specs.Regions.{entered_base, parents_base, points, seen_base}
use Rattle.runs.specs.Runs.{meth}
use Rattle.runs.specs.Summary.{Inside, callee, spots}
use Rattle.runs.specs.Summary.Moves.{callee_i, callee_e, out}
use Rattle.runs.specs.Summary.Spots.{spot, spots_sound, spots_complete, inside_now}
use Rattle.runs.specs.Summary.Trails.{Rec, trail_rec_bytes, Where, before, end, leaving}
use Rattle.runs.specs.Searching.{item, parent, item_end, seen, entered, places_seen, Sooner, ends_in, Searching, Leaving, May, Looked, Yielding}
use Rattle.runs.specs.Searching.Looks.{ascends_rest}
use Rattle.runs.specs.Searching.Pushes.{one_record, same_size, item_same, look_seen, places_most, few_by}
use Rattle.runs.specs.Worklist.{union}
use Rattle.runs.specs.Worklist.Steps.{inside_method}
use Rattle.runs.specs.Worklist.Unions.{union_e, union_i}

-- what stands before another in a list that ascends is sooner
sooner_in : (rs more : List Rec) (r t : Rec) → Ascends Sooner (rs ++ more) → Memᴰ r rs → Memᴰ t more → Sooner r t
sooner_in [] more r t a k n = absurd (Memᴰ.not-nil k)
sooner_in (x ∷ rs) more r t a k n = go (Memᴰ.cases_cons k) (λ j. sooner_in rs more r t a.1 j n)
  where
    go : (r ≡ x) ⊎ Memᴰ r rs → (Memᴰ r rs → Sooner r t) → Sooner r t
    go (inl e) f = subst (λ (u : Rec). Sooner u t) (sym e) (a.0 t (Memᴰ.append_right rs n))
    go (inr j) f = f j

module _ (G : Graph) (mon : Monitor) (m : ℕ) (few_nodes : size G ≤ max_nodes) (few_edges : length G.edges ≤ max_edges) where
  -- records to places that are met
  pub looked_seen : (head tail : ℕ) (rs : List Rec) (w : List ℕ) → head < tail → ((r : Rec) → Memᴰ r rs → Leaving G mon m head w r × T (seen w r.to r.now))
      → Looked G mon m head rs tail tail w w
  looked_seen head tail rs w h f = record {
    ascends_on = λ more a. ascends_rest rs more a;
    searching_on = λ more a s. all rs more a f s;
    ends_kept = λ i l. refl;
    longer = omega arith;
  }
    where
      all : (rs more : List Rec) → Ascends Sooner (rs ++ more) → ((r : Rec) → Memᴰ r rs → Leaving G mon m head w r × T (seen w r.to r.now))
          → Searching G mon m head tail (rs ++ more) w → Searching G mon m head tail more w
      all [] more a f s = s
      all (r ∷ rs) more a f s =
          let d = f r (Memᴰ.head refl) in
          all rs more a.1 (λ t k. f t (Memᴰ.tail k)) (look_seen G mon m few_nodes few_edges head tail r (rs ++ more) w s h d.0 a.0 d.1)

  -- once looked at, its place is met
  pub seen_after : (head tail tail' : ℕ) (rs : List Rec) (w w' : List ℕ) → head < tail → May G mon m head rs tail w → Looked G mon m head rs tail tail' w w'
      → (r : Rec) → Memᴰ r rs → Leaving G mon m head w r → T (seen w' r.to r.now)
  seen_after head tail tail' rs w w' h may l r k lv =
      go (s.searched.pending r (omega (arith, l.longer)) (subst (λ (x : Where). Memᴰ r (leaving G mon m x)) (sym (l.ends_kept head h)) lv.leaves))
    where
      s : Searching G mon m head tail' may.more w'
      s = l.searching_on may.more may.ascends may.searching

      go : Memᴰ r may.more ⊎ Met tail' (item_end w') (end r) → T (seen w' r.to r.now)
      go (inl n) = absurd (before_irrefl (trail_rec_bytes r) (sooner_in rs may.more r r may.ascends k n))
      go (inr n) = s.met_seen r.to r.now lv.to_node lv.now_small n

  -- ---- the pair is marked

  module _ (w : List ℕ) (l p : ℕ) (hl : l < 9) (hp : p < 8) where
    abbrev marked : List ℕ
    marked = put_bit w entered_base (8 * l + p)

    kept : (q : ℕ) → q < entered_base → get_or marked q 0 ≡ get_or w q 0
    kept q h = bit_outside w entered_base (8 * l + p) q (λ e. omega (arith, e))

    item_kept : (i : ℕ) → i ≤ points → item marked i ≡ item w i
    item_kept i h = item_same w marked i (λ q a b. kept q (omega arith))

    end_kept : (i : ℕ) → i ≤ points → item_end marked i ≡ item_end w i
    end_kept i h = ap (λ (r : Rec). cond (eqb i 0) before (end r)) (item_kept i h)

    parent_kept : (i : ℕ) → i ≤ points → parent marked i ≡ parent w i
    parent_kept i h = cell_agree marked w parents_base 2 i (λ q a b. kept q (omega arith))

    seen_kept : (h : ℕ) → h < points → has_bit marked seen_base h ≡ has_bit w seen_base h
    seen_kept h b = bit_byte marked w seen_base seen_base h (kept (seen_base + h / 8) (omega arith))

    place_in : (g q : ℕ) → g < size G → q < 8 → 8 * g + q < points
    place_in g q hg hq = omega (arith, few_nodes)

    places_kept : places_seen marked ≡ places_seen w
    unfolding places_seen
    places_kept = tally_same (λ (h : ℕ). has_bit marked seen_base h) (λ (h : ℕ). has_bit w seen_base h) points seen_kept

    module _ (head tail : ℕ) (below : head < tail) (all_seen : (n : ℕ) → EntryOf G l n → T (seen w n p)) where
      mark : (rs : List Rec) → Searching G mon m head tail rs w → Searching G mon m head tail rs marked
      mark rs s = record {
        room = omega (arith, length_put_bit w entered_base (8 * l + p), s.room);
        tables = tables_kept G mon w marked few_nodes few_edges (λ q a b. kept q (omega arith)) s.tables;
        way = s.way;
        searched = searched_same (leaving G mon m) end trail_rec_bytes same_size one_record before head tail (item_end w) s.way (λ r. Memᴰ r rs) s.searched (omega arith) (item_end marked)
            (λ i k. end_kept i (in_items i k));
        linked = λ i z k.
            let a = s.linked i z k in
            let e = parent_kept i (in_items i k) in
            (omega (arith, e, a.0), a.1 ∙ ap₂ ◌∷◌ (sym (item_kept i (in_items i k))) (ap s.way (sym e)));
        in_range = λ i z k. subst (λ (r : Rec). (r.to < size G) × (r.now < 8)) (sym (item_kept i (in_items i k))) (s.in_range i z k);
        seen_met = λ g q hg hq t.
            let a = s.seen_met g q hg hq (subst T (seen_kept (8 * g + q) (place_in g q hg hq)) t) in
            (a.0, a.1, end_kept a.0 (in_items a.0 a.1) ∙ a.2);
        met_seen = λ g q hg hq a.
            subst T (sym (seen_kept (8 * g + q) (place_in g q hg hq))) (s.met_seen g q hg hq (a.0, a.1, sym (end_kept a.0 (in_items a.0 a.1)) ∙ a.2));
        entered_seen = λ l' q n hl' hq t e. subst T (sym (seen_kept (8 * n + q) (place_in n q e.is_node hq))) (was l' q n hl' hq t e (ℕ_discrete (8 * l + p) (8 * l' + q)));
        few = subst (λ (k : ℕ). tail ≤ suc k) (sym places_kept) s.few;
      }
        where
          in_items : (i : ℕ) → i < tail → i ≤ points
          in_items i k = few_by i tail (places_seen w) k s.few (places_most w)

          was : (l' q n : ℕ) → l' < 9 → q < 8 → T (entered marked l' q) → EntryOf G l' n → Dec (8 * l + p ≡ 8 * l' + q) → T (seen w n q)
          was l' q n hl' hq t e (yes d) =
              let a : l ≡ l' = omega arith in
              let b : p ≡ q = omega arith in
              subst (λ (k : ℕ). T (seen w n k)) b (all_seen n (subst (λ (k : ℕ). EntryOf G k n) (sym a) e))
          was l' q n hl' hq t e (no d) = s.entered_seen l' q n hl' hq (subst T (bit_other w entered_base (8 * l + p) (8 * l' + q) d) t) e

  -- marking leaves all that was looked at
  pub looked_marked : (head tail tail' : ℕ) (rs : List Rec) (w w' : List ℕ) (l p : ℕ) → l < 9 → p < 8 → head < tail → May G mon m head rs tail w → Looked G mon m head rs tail tail' w w'
      → ((n : ℕ) → EntryOf G l n → T (seen w' n p)) → Looked G mon m head rs tail tail' w (put_bit w' entered_base (8 * l + p))
  looked_marked head tail tail' rs w w' l p hl hp h may x f = record {
    ascends_on = x.ascends_on;
    searching_on = λ more a s. mark w' l p hl hp head tail' (omega (arith, x.longer)) f more (x.searching_on more a s);
    ends_kept = λ i k. end_kept w' l p hl hp i (few_by i tail (places_seen w) k may.searching.few (places_most w)) ∙ x.ends_kept i k;
    longer = x.longer;
  }

-- ---- the summaries by value

module _ (G : Graph) (mon : Monitor) (flow : Flow G) (labels_small : (e : Edge) → Memᴰ e G.edges → e.label < 9) (mon_small : (q : ℕ) (v : Event) → q < 8 → mon q v < 8)
    (t : List (List ℕ)) (table : Yielding G mon t) (e : Edge) (k : Memᴰ e G.edges) (calling : 1 ≤ e.label) (q : ℕ) (hq : q < 8) where
  abbrev from_state : ℕ
  from_state = mon q (calls (meth G e.from) e.label)

  abbrev returned : ℕ
  returned = get_or (get_or t (e.label - 1) []) from_state 0

  at_label : suc (e.label - 1) ≡ e.label
  at_label = omega arith

  in_table : e.label - 1 < 8
  in_table = omega (arith, labels_small e k)

  one_e : (i s : ℕ) → T (member (2 ^ i) s) → i ≡ s
  one_e i s u = eqb→eq i s (subst T (member_one i s) u)

  -- the states in which a call over e from state q can end are those that the table gives
  pub ends_by_table : (r : ℕ) → r < 8 → member (union (λ (s : ℕ). 2 ^ mon s (returns_to e.label (meth G e.from))) returned) r ≡ ends_in G mon e q r
  ends_by_table r hr = same_test _ _ forth back
    where
      out_of : ℕ → ℕ
      out_of s = 2 ^ mon s (returns_to e.label (meth G e.from))

      end_is : (h s : ℕ) → meth G h ≡ e.label → out G mon e h s ≡ mon s (returns_to e.label (meth G e.from))
      end_is h s d = ap₂ (λ (a b : ℕ). mon s (returns_to a b)) d (flow.one_method e k)

      forth : T (member (union out_of returned) r) → T (ends_in G mon e q r)
      forth u =
          let a = union_e out_of returned r hr u in
          let y = (table (e.label - 1) from_state a.0 in_table (mon_small q _ hq) a.1).0 a.2 in
          let i : Inside G mon e.label from_state y.at a.0 = subst (λ (l : ℕ). Inside G mon l from_state y.at a.0) at_label y.inside in
          any_i (callee G mon e q r) (spots G mon) (spot e.label from_state y.at a.0)
          (spots_complete G mon flow labels_small mon_small e.label from_state y.at a.0 (labels_small e k) (mon_small q _ hq) i)
          (callee_i G mon e q r (spot e.label from_state y.at a.0) refl refl y.returning
          (end_is y.at a.0 (inside_method G mon flow labels_small mon_small e.label from_state y.at a.0 i) ∙ one_e _ r a.3))

      back : T (ends_in G mon e q r) → T (member (union out_of returned) r)
      back u =
          let a = any_e (callee G mon e q r) (spots G mon) u in
          let z = a.0 in
          let c = callee_e G mon e q r z a.2 in
          let i = spots_sound G mon z a.1 in
          let i' : Inside G mon e.label from_state z.at z.now =
          subst (λ (l : ℕ). Inside G mon l from_state z.at z.now) c.0 (subst (λ (p : ℕ). Inside G mon z.of p z.at z.now) c.1 i) in
          let hz = inside_now G mon mon_small e.label from_state z.at z.now (mon_small q _ hq) i' in
          let y = (table (e.label - 1) from_state z.now in_table (mon_small q _ hq) hz).1
          (record { at = z.at; inside = subst (λ (l : ℕ). Inside G mon l from_state z.at z.now) (sym at_label) i'; returning = c.2 }) in
          union_i out_of returned r hr z.now hz y
          (subst T (sym (member_one _ r)) (eq_eqb _ r (sym (end_is z.at z.now (inside_method G mon flow labels_small mon_small e.label from_state z.at z.now i')) ∙ c.3)))
