-- The theorems of specs/Summary/Trails/Kinds that rest on a definition which a must-fail edit turns: there they could not be read under the edit.
-- Kinds: What kind of step it is shows in the stack, and with it where it ends and in which state.
use Rattle.std.specs.Prelude.{◌≡◌, ℕ, T, length}
use Rattle.std.proofs.Common.{sym, ap, ◌∙◌, arith}
use mathlib.Core.List.{◌∷◌, head-eq_of_cons-eq}
use Rattle.files.specs.Graph.{Graph, node}
use Rattle.files.specs.Rules.{returns_to, Monitor}
use Rattle.runs.specs.Runs.{Config, plain, meth, Step, internal, call, return}

module _ (G : Graph) (mon : Monitor) where
  -- one that pops is a return, to the node popped
  pub step_return : (c d : Config) (t : ℕ) → Step G (plain G) mon c d → c.stack ≡ t ∷ d.stack
      → T (node G c.at).ret × (d.at ≡ t) × (d.state ≡ mon c.state (returns_to (meth G c.at) (meth G t)))
  step_return c d t (internal e x z) q = absurd (omega (arith, ap length q))
  step_return c d t (call e n x z k) q = absurd (omega (arith, ap length q))
  step_return c d t (return u s b z) q =
      let i : u ≡ t = head-eq_of_cons-eq (sym z ∙ q) in
      (b, i, ap (λ (y : ℕ). mon c.state (returns_to (meth G c.at) (meth G y))) i)
