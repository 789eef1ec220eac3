-- The theorems of specs/Composing/Sides that rest on a definition which a must-fail edit turns: there they could not be read under the edit.
-- Sides: Any two sides, each a graph that is known or one that is not written yet: what they give is watched for all that may stand on them. The verdicts with a known graph and
-- with two unwritten sides are cases of it.
use Rattle.std.specs.Prelude.{◌↔◌, ℕ}
use Rattle.files.specs.Graph.{Graph}
use Rattle.files.specs.Join.{join}
use Rattle.files.specs.Rules.{Monitor}
use Rattle.runs.specs.Composing.{Side, gives, Admits}
use Rattle.runs.specs.Join.{join_simulates}
use Rattle.runs.specs.Runs.{Bad as BadRun, Clean}
use Rattle.runs.proofs.Theorems.Runs.Laws.{simulates_bad}
use Rattle.runs.specs.Composing.Sides.{Sound, admitted_flow, gives_admitted, gives_simulates}

-- a run with graphs that may stand on two sides is matched by one with what the sides give
module _ (A B : Side) (sa : Sound A) (sb : Sound B) (mon : Monitor) (m : ℕ) where
  matched : (G H : Graph) → Admits A G → Admits B H → BadRun (join G H) mon m → BadRun (join (gives A) (gives B)) mon m
  matched G H a b =
      simulates_bad (join G H) (join (gives A) (gives B)) mon (join_simulates G (gives A) H (gives B) (admitted_flow A sa G a) (gives_simulates A sa G a) (gives_simulates B sb H b)) m

  -- what two sides give is bad together exactly where some graphs that may stand on them are
  pub bad_of_sides : BadRun (join (gives A) (gives B)) mon m ↔ ((G : Graph) × (H : Graph) × Admits A G × Admits B H × BadRun (join G H) mon m)
  bad_of_sides = (λ bad. (gives A, gives B, gives_admitted A sa, gives_admitted B sb, bad), λ x. matched x.0 x.1 x.2 x.3 x.4)

  -- and clean together exactly where all graphs that may stand on them are
  pub clean_of_sides : Clean (join (gives A) (gives B)) mon m ↔ ((G H : Graph) → Admits A G → Admits B H → Clean (join G H) mon m)
  clean_of_sides = (λ clean G H a b bad. clean (matched G H a b bad), λ all. all (gives A) (gives B) (gives_admitted A sa) (gives_admitted B sb))
