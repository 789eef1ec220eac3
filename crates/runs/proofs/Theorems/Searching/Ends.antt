-- The theorems of specs/Searching/Ends that rest on a definition which a must-fail edit turns: there they could not be read under the edit.
-- Ends: The turns of the search: its start in a buffer of zeros, the next item's turn once all records of one are looked at, and what it says where a bad place has its turn,
-- or where no item is left.
use Rattle.std.specs.Prelude.{refl, ◌⊎◌, not, ℕ, suc, ◌≤◌, ◌<◌}
use Rattle.std.proofs.Common.{sym, inl, inr, arith}
use Rattle.std.proofs.Math.Path.{subst}
use mathlib.Core.List.{List, [], Memᴰ}
use Rattle.std.proofs.Math.Dec.{T}
use Rattle.files.specs.Basics.Shortest.{To, there}
use Rattle.files.specs.Basics.Tests.{decide}
use Rattle.files.specs.Graph.{Graph, Edge, Flow}
use Rattle.files.specs.Rules.{Monitor, Event}
use Rattle.runs.specs.Forward.{Met, at_start, turned, all_met, best_found, turned_path, path_turned}
use Rattle.runs.specs.Regions.{points}
use Rattle.runs.specs.Runs.{Bad}
use Rattle.runs.specs.Summary.{clean}
use Rattle.runs.proofs.Theorems.Summary.Places.{not_clean_bad, clean_no_bad}
use Rattle.runs.specs.Summary.Trails.{Rec, trail_rec_bytes, Where, before, end, is_bad, leaving, trail}
use Rattle.runs.specs.Summary.Trails.Laws.{trail_to, trail_fewest, trail_first}
use Rattle.runs.proofs.Theorems.Summary.Trails.Laws.{path_iff_bad}
use Rattle.runs.specs.Searching.{item_end, places_seen, Turn, Says}
use Rattle.runs.specs.Searching.Pushes.{one_record, same_size, places_most, few_by}
use Rattle.runs.specs.Searching.Ends.{s}

module _ (G : Graph) (mon : Monitor) (m : ℕ) where
  module _ (flow : Flow G) (labels_small : (e : Edge) → Memᴰ e G.edges → e.label < 9) (mon_small : (q : ℕ) (v : Event) → q < 8 → mon q v < 8) (head tail : ℕ) (w : List ℕ)
      (turn : Turn G mon m head tail w) where
    -- a bad place has its turn
    pub says_bad : head < tail → T (is_bad (item_end w head)) → Says G mon m head w
    says_bad h t = inr (
      turn.past_start,
      go (decide (clean G mon m)),
      record {
        way = (s G mon m flow labels_small mon_small head tail w turn).way;
        first_way = (s G mon m flow labels_small mon_small head tail w turn).searched.first_way;
        linked = λ k z l. (s G mon m flow labels_small mon_small head tail w turn).linked k z (omega arith);
        is_trail =
            best_found (leaving G mon m) end trail_rec_bytes same_size one_record before head tail (item_end w) (s G mon m flow labels_small mon_small head tail w turn).way (λ r. Memᴰ r (leaving G mon m (item_end w head))) (s G mon m flow labels_small mon_small head tail w turn).searched h is_bad
            turn.good t (trail G mon m) (trail_to G mon flow labels_small mon_small m mine_is path) (λ rs p. trail_fewest G mon flow labels_small mon_small m rs p)
            (λ rs p. trail_first G mon flow labels_small mon_small m rs p);
        few = few_items h (s G mon m flow labels_small mon_small head tail w turn).few;
      },
    )
      where
        mine_is : List Rec
        mine_is = turned (leaving G mon m) end trail_rec_bytes ((s G mon m flow labels_small mon_small head tail w turn).way head) []

        path : To (leaving G mon m) end trail_rec_bytes is_bad before mine_is
        path = turned_path (leaving G mon m) end trail_rec_bytes is_bad before (item_end w head) ((s G mon m flow labels_small mon_small head tail w turn).way head) [] ((s G mon m flow labels_small mon_small head tail w turn).searched.behind head h) (there (item_end w head) t)

        bad : Bad G mon m
        bad = (path_iff_bad G mon flow labels_small mon_small m).0 (mine_is, path)

        go : T (clean G mon m) ⊎ T (not (clean G mon m)) → T (not (clean G mon m))
        go (inl c) = absurd (clean_no_bad G mon flow labels_small mon_small m c bad)
        go (inr c) = c

        few_items : head < tail → tail ≤ suc (places_seen w) → head ≤ points
        few_items a b = few_by head tail (places_seen w) a b (places_most w)

    -- none is left
    pub says_clean : tail ≤ head → Says G mon m 0 w
    says_clean l = inl (refl, go (decide (clean G mon m)))
      where
        met_bad : (z : Where) → T (is_bad z) → Met tail (item_end w) z → ⊥
        met_bad z t k = turn.good k.0 (omega (arith, k.1)) (subst (λ (x : Where). T (is_bad x)) (sym k.2) t)

        go : T (clean G mon m) ⊎ T (not (clean G mon m)) → T (clean G mon m)
        go (inl c) = c
        go (inr c) =
            let p = (path_iff_bad G mon flow labels_small mon_small m).1 (not_clean_bad G mon m c) in
            let a = path_turned (leaving G mon m) end trail_rec_bytes is_bad before before [] p.0 at_start p.1 in
            absurd (met_bad a.0 a.1
            (all_met (leaving G mon m) end trail_rec_bytes same_size one_record before head tail (item_end w) (s G mon m flow labels_small mon_small head tail w turn).way (λ r. Memᴰ r (leaving G mon m (item_end w head))) (s G mon m flow labels_small mon_small head tail w turn).searched l a.0 _ a.2))
