-- The theorems of specs/Summary/Places that rest on a definition which a must-fail edit turns: there they could not be read under the edit.
-- Places: The computed verdict is exact: the places listed are those that a trail reaches, so the verdict is "clean" where no run with an unbounded stack is bad, and
-- only there.
use Rattle.std.specs.Prelude.{not, ℕ, ◌<◌}
use mathlib.Core.List.{Memᴰ}
use Rattle.std.proofs.Math.Dec.{T, eqb, eqb→eq, T_not}
use Rattle.files.specs.Basics.Tests.{any, any_i, any_e, eq_eqb, not_not}
use Rattle.files.specs.Graph.{Graph, Edge, Flow}
use Rattle.files.specs.Rules.{Event, Monitor}
use Rattle.runs.specs.Runs.{Bad, Clean}
use Rattle.runs.specs.Summary.{Place, places, clean}
use Rattle.runs.proofs.Theorems.Summary.Exact.{exact}
use Rattle.runs.specs.Summary.Places.{place, places_complete, places_sound}

module _ (G : Graph) (mon : Monitor) where
  module _ (k : ℕ) where
    -- where the computed verdict is not "clean", some run with an unbounded stack is bad
    pub not_clean_bad : T (not (clean G mon k)) → Bad G mon k
    unfolding clean
    not_clean_bad t =
        let a = any_e (λ (x : Place). eqb x.now 7) (places G mon k) (not_not (any (λ (x : Place). eqb x.now 7) (places G mon k)) t) in
        let r = (exact G mon k a.0.at a.0.now).0 ((places_sound G mon k) a.0 a.1) in
        record { end = record { at = a.0.at; stack = r.0; state = a.0.now }; run = r.1; is_bad = eqb→eq _ _ a.2 }

module _ (G : Graph) (mon : Monitor) (flow : Flow G) (labels_small : (e : Edge) → Memᴰ e G.edges → e.label < 9)
    (mon_small : (q : ℕ) (v : Event) → q < 8 → mon q v < 8) (k : ℕ) where
  -- where it is "clean", none is
  pub clean_no_bad : T (clean G mon k) → Clean G mon k
  unfolding clean
  clean_no_bad t b =
      let c = (exact G mon k b.end.at b.end.state).1 (b.end.stack, b.run) in
      T_not (any (λ (x : Place). eqb x.now 7) (places G mon k)) t
      (any_i (λ (x : Place). eqb x.now 7) (places G mon k) (place b.end.at b.end.state) ((places_complete G mon flow labels_small mon_small k) _ _ c) (eq_eqb b.end.state 7 b.is_bad))
