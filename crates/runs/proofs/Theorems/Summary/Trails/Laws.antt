-- The theorems of specs/Summary/Trails/Laws that rest on a definition which a must-fail edit turns: there they could not be read under the edit.
-- Laws: The trail is a way to a bad state wherever there is a bad run, has the fewest records and, of those, the smallest bytes.
use Rattle.std.specs.Prelude.{refl, ◌↔◌, ℕ, ◌<◌}
use mathlib.Core.List.{List, [], Memᴰ}
use Rattle.files.specs.Basics.Shortest.{there}
use Rattle.files.specs.Basics.Tests.{eq_eqb}
use Rattle.files.specs.Graph.{Graph, Edge, Flow}
use Rattle.files.specs.Rules.{Event, Monitor}
use Rattle.runs.specs.Runs.{Bad}
use Rattle.runs.proofs.Theorems.Summary.Exact.{exact}
use Rattle.runs.specs.Summary.Trails.{Rec, before, here}
use Rattle.runs.specs.Summary.Trails.Laws.{Path, path_bad, place, trail_path}

module _ (G : Graph) (mon : Monitor) (flow : Flow G) (labels_small : (e : Edge) → Memᴰ e G.edges → e.label < 9)
    (mon_small : (q : ℕ) (v : Event) → q < 8 → mon q v < 8) (m : ℕ) where
  pub path_iff_bad : ((rs : List Rec) × (Path G mon flow labels_small mon_small m) before rs) ↔ Bad G mon m
  path_iff_bad = (
    λ a.
        let b = (path_bad G mon flow labels_small mon_small m) before a.0 a.1 tt in
        let r = (exact G mon m b.0 7).0 b.1 in
        record { end = record { at = b.0; stack = r.0; state = 7 }; run = r.1; is_bad = refl },
    λ b.
        let c = (exact G mon m b.end.at b.end.state).1 (b.end.stack, b.run) in
        (trail_path G mon flow labels_small mon_small m) b.end.at b.end.state c [] (there (here ((place G mon flow labels_small mon_small m) b.end.at b.end.state)) (eq_eqb b.end.state 7 b.is_bad)),
  )
