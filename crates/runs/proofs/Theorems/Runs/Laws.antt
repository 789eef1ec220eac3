-- The theorems of specs/Runs/Laws that rest on a definition which a must-fail edit turns: there they could not be read under the edit.
-- Laws: A graph that simulates another has its bad runs, whatever the naming, if related configurations show the same.
use Rattle.std.specs.Prelude.{ℕ}
use Rattle.std.proofs.Common.{ap, ap₂}
use Rattle.std.proofs.Math.Option.{some}
use Rattle.files.specs.Graph.{Graph}
use Rattle.files.specs.Rules.{calls, returns_to, Monitor}
use Rattle.judging.specs.Simulation.{Simulates}
use Rattle.runs.specs.Runs.{plain, Bad}
use Rattle.runs.specs.Runs.Laws.{Agree, bad_like}

-- the plain naming, which goes by methods, shows the same at related nodes
pub plain_agrees : (G H : Graph) (sim : Simulates G H) → Agree sim.rel (plain G) (plain H)
plain_agrees G H sim = record {
  calls_agree = λ g h s v l r x. ap (λ (m : ℕ). some (calls m l)) (sim.simulation.same_method g h r);
  returns_agree = λ g h t u s v r q x. ap₂ (λ (m n : ℕ). some (returns_to m n)) (sim.simulation.same_method g h r) (sim.simulation.same_method t u q);
}

-- a graph that simulates another is bad where the other is
pub simulates_bad : (G H : Graph) (mon : Monitor) → Simulates G H → (m : ℕ) → Bad G mon m → Bad H mon m
simulates_bad G H mon sim = bad_like G H (plain G) (plain H) mon sim (plain_agrees G H sim)
