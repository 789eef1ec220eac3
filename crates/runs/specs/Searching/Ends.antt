-- The turns of the search: its start in a buffer of zeros, the next item's turn once all records of one are looked at, and what it says where a bad place has its turn,
-- or where no item is left.
-- Its theorems that rest on a definition which a must-fail edit turns stand in proofs/Theorems/Searching/Ends.
use Rattle.std.specs.Prelude.{◌≡◌, refl, ◌⊎◌, ℕ, suc, ◌+◌, ◌*◌, ◌/◌, ◌≤◌, ◌<◌, length, get_or}
use Rattle.std.proofs.Common.{sym, ap, ◌∙◌, inl, inr, eq-or-lt_of_le, le_of_suc-le-suc, arith}
use Rattle.std.proofs.Math.Path.{subst}
use mathlib.Core.List.Memᴰ
use mathlib.Core.List.{List, [], Memᴰ, append-nil}
use Rattle.std.proofs.Math.Dec.{T}
use Rattle.files.specs.Access.{first_edge}
use Rattle.files.specs.Basics.Lexical.{Before}
use Rattle.files.specs.Basics.Lists.{span}
use Rattle.files.specs.Basics.Order.{Ascends, span_ascends}
use Rattle.files.specs.Cells.{has_bit}
use Rattle.files.specs.Cells.Laws.{zero_bit}
use Rattle.files.specs.Decode.{key}
use Rattle.files.specs.Graph.{Graph, Edge, size, node, Flow}
use Rattle.files.specs.Rules.{Monitor, Event}
use Rattle.runs.specs.Forward.{Met, Back, at_start, onward, UpTo, fewer_due, next_item}
use Rattle.runs.specs.Prepared.{Tables}
use Rattle.runs.specs.Regions.{entered_base, seen_base, watch_room}
use Rattle.runs.specs.Summary.{Place}
use Rattle.runs.specs.Summary.Trails.{Rec, trail_rec_bytes, Where, before, here, end, is_bad, leaving}
use Rattle.runs.specs.Summary.Trails.Laws.{leaves_e, leaves_i, leaving_return}
use Rattle.runs.specs.Searching.{item_end, places_seen, Sooner, edge_at, outgoing, starts_of, Searching, Here, May, Looked, Turn}
use Rattle.runs.specs.Searching.Outgoing.{outgoing_ascends, outgoing_is, outgoing_leaves, leaves_outgoing, starts_ascend, starts_leave}
use Rattle.runs.specs.Searching.Pushes.{one_record, same_size}

module _ (G : Graph) (mon : Monitor) (m : ℕ) where
  -- other records are due, of which none is left out that leads to what is not met
  pub same_due : (head tail : ℕ) (rs rs' : List Rec) (w : List ℕ) → Searching G mon m head tail rs w → ((t : Rec) → Memᴰ t rs' → Memᴰ t rs)
      → ((t : Rec) → Memᴰ t (leaving G mon m (item_end w head)) → Memᴰ t rs → Memᴰ t rs' ⊎ Met tail (item_end w) (end t)) → Searching G mon m head tail rs' w
  same_due head tail rs rs' w s sub on = record {
    room = s.room;
    tables = s.tables;
    way = s.way;
    searched = fewer_due (leaving G mon m) end trail_rec_bytes same_size one_record before head tail (item_end w) s.way (λ t. Memᴰ t rs) s.searched (λ t. Memᴰ t rs') sub on;
    linked = s.linked;
    in_range = s.in_range;
    seen_met = s.seen_met;
    met_seen = s.met_seen;
    entered_seen = s.entered_seen;
    few = s.few;
  }

  -- the next item's turn
  next_turn : (head tail : ℕ) (rs : List Rec) (w : List ℕ) → Searching G mon m head tail rs w → head < tail → ((t : Rec) → Memᴰ t (leaving G mon m (item_end w head)) → Memᴰ t rs → ⊥)
      → Searching G mon m (suc head) tail (leaving G mon m (item_end w (suc head))) w
  next_turn head tail rs w s h none = record {
    room = s.room;
    tables = s.tables;
    way = s.way;
    searched = next_item (leaving G mon m) end trail_rec_bytes same_size one_record before head tail (item_end w) s.way (λ t. Memᴰ t rs) s.searched h none
        (λ t. Memᴰ t (leaving G mon m (item_end w (suc head)))) (λ t k. k);
    linked = s.linked;
    in_range = s.in_range;
    seen_met = s.seen_met;
    met_seen = s.met_seen;
    entered_seen = s.entered_seen;
    few = s.few;
  }

  -- ---- the start

  module _ (w : List ℕ) (room : watch_room ≤ length w) (tables : Tables G mon w) (zeros : (q : ℕ) → seen_base ≤ q → get_or w q 0 ≡ 0) where
    no_bit : (base h : ℕ) → seen_base ≤ base → T (has_bit w base h) → ⊥
    no_bit base h b t = subst T (zero_bit w base h (zeros (base + h / 8) (omega arith))) t

    only_start : (x : Where) (rs : List Rec) → Back (leaving G mon m) end trail_rec_bytes before x rs → UpTo (leaving G mon m) end trail_rec_bytes [] rs
    only_start x rs at_start = inr refl
    only_start x rs (onward x' y rs' r b k e) = inl (inl (omega arith))

    start_search : Searching G mon m 0 1 (leaving G mon m before) w
    start_search = record {
      room = room;
      tables = tables;
      way = λ i. [];
      searched = record {
        first_point = refl;
        first_way = refl;
        some_item = omega arith;
        behind = λ i l. back i l;
        sorted = λ i j l k. absurd (omega arith);
        smallest = λ i l rs b. only_start (item_end w i) rs b;
        closed = λ i l r k. absurd (omega (arith, l));
        pending = λ r l k. inl k;
        found_by = λ j z l. absurd (omega (arith, z, l));
      };
      linked = λ i z l. absurd (omega (arith, z, l));
      in_range = λ i z l. absurd (omega (arith, z, l));
      seen_met = λ g q hg hq t. absurd (no_bit seen_base (8 * g + q) (omega arith) t);
      met_seen = λ g q hg hq k. absurd (not_here k.0 k.1 (record { at = g; now = q }) k.2);
      entered_seen = λ l q n hl hq t e. absurd (no_bit entered_base (8 * l + q) (omega arith) t);
      few = one_le_suc (places_seen w);
    }
      where
        one_le_suc : (n : ℕ) → 1 ≤ suc n
        one_le_suc n = omega arith

        back : (i : ℕ) → i < 1 → Back (leaving G mon m) end trail_rec_bytes before (item_end w i) []
        back i l = let e : i ≡ 0 = omega arith in subst (λ (k : ℕ). Back (leaving G mon m) end trail_rec_bytes before (item_end w k) []) (sym e) at_start

        where_is : Where → ℕ
        where_is before = 0
        where_is (here x) = 1

        not_here : (k : ℕ) → k < 1 → (x : Place) → item_end w k ≡ here x → ⊥
        not_here k l x e = let z : k ≡ 0 = omega arith in let d : ◌≡◌ {A = ℕ} 0 1 = ap where_is (sym (ap (item_end w) z) ∙ e) in omega (arith, d)

    pub start_may : May G mon m 0 (starts_of G mon m (span 0 (size G))) 1 w
    start_may = record {
      more = [];
      ascends = subst (Ascends Sooner) (sym (append-nil (starts_of G mon m (span 0 (size G))))) (starts_ascend G mon m (span 0 (size G)) (span_ascends (size G) 0));
      searching = subst (λ (rs : List Rec). Searching G mon m 0 1 rs w) (starts_leave G mon m ∙ sym (append-nil (starts_of G mon m (span 0 (size G))))) start_search;
    }

    pub turn_first : (tail : ℕ) (w' : List ℕ) → Looked G mon m 0 (starts_of G mon m (span 0 (size G))) 1 tail w w' → Turn G mon m 1 tail w'
    unfolding start_may
    turn_first tail w' l =
        let s = l.searching_on [] start_may.ascends start_may.searching in
        record {
          searching = next_turn 0 tail [] w' s (omega (arith, l.longer)) (λ t k n. Memᴰ.not-nil n);
          behind = l.longer;
          past_start = omega arith;
          good = λ i h t. first_good i (omega arith) t;
        }
      where
        first_good : (i : ℕ) → i ≡ 0 → T (is_bad (item_end w' i)) → ⊥
        first_good i e t = subst (λ (k : ℕ). T (is_bad (item_end w' k))) e t

  -- ---- one turn

  module _ (flow : Flow G) (labels_small : (e : Edge) → Memᴰ e G.edges → e.label < 9) (mon_small : (q : ℕ) (v : Event) → q < 8 → mon q v < 8)
      (ordered : (i j : ℕ) → i < j → j < length G.edges → Before (key (edge_at G mon i)) (key (edge_at G mon j))) (head tail : ℕ) (w : List ℕ) (turn : Turn G mon m head tail w) (h : head < tail)
      (not_bad : T (is_bad (item_end w head)) → ⊥) where
    good_on : (tail' : ℕ) (w' : List ℕ) → ((i : ℕ) → i < tail → item_end w' i ≡ item_end w i) → (i : ℕ) → i < suc head → T (is_bad (item_end w' i)) → ⊥
    good_on tail' w' same i l t = go (eq-or-lt_of_le (le_of_suc-le-suc l)) (subst (λ (x : Where). T (is_bad x)) (same i (omega arith)) t)
      where
        go : (i ≡ head) ⊎ (i < head) → T (is_bad (item_end w i)) → ⊥
        go (inl e) u = not_bad (subst (λ (k : ℕ). T (is_bad (item_end w k))) e u)
        go (inr k) u = turn.good i k u

    -- a return node lets nothing leave
    pub turn_return : (x : Place) → item_end w head ≡ here x → T (node G x.at).ret → Turn G mon m (suc head) tail w
    turn_return x e r = record {
      searching = next_turn head tail (leaving G mon m (item_end w head)) w turn.searching h
          (λ t k n. Memᴰ.not-nil (subst (λ (rs : List Rec). Memᴰ t rs) (ap (leaving G mon m) e ∙ leaving_return G mon m x r) k));
      behind = h;
      past_start = omega arith;
      good = good_on tail w (λ i l. refl);
    }

    module _ (x : Place) (at : Here G mon m head tail w x)
        (owns : (j : ℕ) → first_edge G x.at ≤ j → j < first_edge G (suc x.at) → (j < length G.edges) × ((edge_at G mon j).from ≡ x.at))
        (Leaves_in : (j : ℕ) → j < length G.edges → (edge_at G mon j).from ≡ x.at → (first_edge G x.at ≤ j) × (j < first_edge G (suc x.at))) where
      out_leaving : (t : Rec) → Memᴰ t (outgoing G mon x) → Memᴰ t (leaving G mon m (item_end w head))
      out_leaving t k =
          subst (λ (v : Where). Memᴰ t (leaving G mon m v)) (sym at.is_here)
          (leaves_i G mon flow labels_small mon_small m x t (outgoing_leaves G mon m flow labels_small mon_small x owns Leaves_in at.no_return t k))

      leaving_out : (t : Rec) → Memᴰ t (leaving G mon m (item_end w head)) → Memᴰ t (outgoing G mon x)
      leaving_out t k =
          leaves_outgoing G mon m flow labels_small mon_small x owns Leaves_in at.no_return t
          (leaves_e G mon flow labels_small mon_small m x t (subst (λ (v : Where). Memᴰ t (leaving G mon m v)) at.is_here k))

      pub may_outgoing : May G mon m head (outgoing G mon x) tail w
      may_outgoing = record {
        more = [];
        ascends = subst (Ascends Sooner) (sym (outgoing_is G mon m x) ∙ sym (append-nil (outgoing G mon x))) (outgoing_ascends G mon m x ordered owns (first_edge G x.at) (omega arith));
        searching = subst (λ (rs : List Rec). Searching G mon m head tail rs w) (sym (append-nil (outgoing G mon x)))
            (same_due head tail (leaving G mon m (item_end w head)) (outgoing G mon x) w turn.searching out_leaving (λ t k n. inl (leaving_out t k)));
      }

      pub turn_next : (tail' : ℕ) (w' : List ℕ) → Looked G mon m head (outgoing G mon x) tail tail' w w' → Turn G mon m (suc head) tail' w'
      unfolding may_outgoing
      turn_next tail' w' l = record {
        searching = next_turn head tail' [] w' (l.searching_on [] may_outgoing.ascends may_outgoing.searching) (omega (arith, l.longer)) (λ t k n. Memᴰ.not-nil n);
        behind = omega (arith, l.longer);
        past_start = omega arith;
        good = good_on tail' w' l.ends_kept;
      }

  -- ---- what the search says

  module _ (flow : Flow G) (labels_small : (e : Edge) → Memᴰ e G.edges → e.label < 9) (mon_small : (q : ℕ) (v : Event) → q < 8 → mon q v < 8) (head tail : ℕ) (w : List ℕ)
      (turn : Turn G mon m head tail w) where
    abbrev pub s : Searching G mon m head tail (leaving G mon m (item_end w head)) w
    s = turn.searching
