-- Any two sides, each a graph that is known or one that is not written yet: what they give is watched for all that may stand on them. The verdicts with a known graph and
-- with two unwritten sides are cases of it.
-- Its theorems that rest on a definition which a must-fail edit turns stand in proofs/Theorems/Composing/Sides.
use Rattle.std.specs.Prelude.{refl, List}
use Rattle.std.proofs.Common.{sym, subst}
use Rattle.files.specs.Graph.{Graph, Flow}
use Rattle.files.specs.Interface.{Interface}
use Rattle.files.specs.Property.{Row, Property}
use Rattle.judging.specs.Simulation.{Simulates}
use Rattle.judging.specs.Simulation.Laws.{simulates_refl}
use Rattle.maximal.specs.Model.{model}
use Rattle.maximal.proofs.Theorems.Model.Filed.{model_is_flow, model_is_of}
use Rattle.maximal.proofs.Theorems.Modelling.Laws.{model_simulates_iff}
use Rattle.runs.specs.Composing.{Conforms, Side, known, unwritten, gives, Admits}

-- the model is one of the graphs that conform
pub model_conforms : (I : Interface) (P : List Row) → Property P → Conforms I P (model I P)
model_conforms I P wf = record {
  is_flow = model_is_flow I P wf;
  is_of = model_is_of I P wf;
  is_satisfying = (model_simulates_iff I P wf (model I P) (model_is_flow I P wf) (model_is_of I P wf)).0 (simulates_refl (model I P) (model_is_flow I P wf));
}

-- a flow graph, or rows that name rows
abbrev pub Sound : Side → Type 0
Sound (known K) = Flow K
Sound (unwritten I P) = Property P

-- what a side gives may stand on it
pub gives_admitted : (A : Side) → Sound A → Admits A (gives A)
gives_admitted (known K) s = refl
gives_admitted (unwritten I P) s = model_conforms I P s

-- what may stand on a side is a flow graph
pub admitted_flow : (A : Side) → Sound A → (G : Graph) → Admits A G → Flow G
admitted_flow (known K) s G a = subst Flow (sym a) s
admitted_flow (unwritten I P) s G c = c.is_flow

-- what a side gives simulates all that may stand on it
pub gives_simulates : (A : Side) → Sound A → (G : Graph) → Admits A G → Simulates G (gives A)
gives_simulates (known K) s G a = subst (λ (X : Graph). Simulates X K) (sym a) (simulates_refl K s)
gives_simulates (unwritten I P) s G c = (model_simulates_iff I P s G c.is_flow c.is_of).1 c.is_satisfying
