-- The frames of a stack above a stack t on which method m was entered in state p: steps that stay above t keep them.
-- Its theorems that rest on a definition which a must-fail edit turns stand in proofs/Theorems/Summary/Frames.
use Rattle.std.specs.Prelude.{◌≡◌, ℕ, ◌<◌, T, length}
use Rattle.std.proofs.Common.{ap, subst₂, arith, length-append}
use mathlib.Core.List.{List, ◌∷◌, head-eq_of_cons-eq, tail-eq_of_cons-eq}
use Rattle.files.specs.Graph.{Graph, Edge, node}
use Rattle.files.specs.Rules.{calls, returns_to, Monitor}
use Rattle.runs.specs.Runs.{meth, On, Runs}
use Rattle.runs.specs.Summary.{Inside, over}

module _ (G : Graph) (mon : Monitor) (m p : ℕ) (t : List ℕ) where
  -- each frame above t was entered by a call, and the method on top has come to where it is
  pub data Frames : List ℕ → ℕ → ℕ → Type 0 where
    bottom : (g q : ℕ) → Inside G mon m p g q → Frames t g q
    frame : (s : List ℕ) (g q : ℕ) (e : Edge) (h r : ℕ) → Frames s g q → Runs G g e → 0 < e.label
        → Inside G mon e.label (mon q (calls (meth G g) e.label)) h r → Frames (e.to ∷ s) h r

  -- where the method on top can go on, so can the stack
  pub go_on : (s : List ℕ) (g q h r : ℕ) → Frames s g q → ((k o : ℕ) → Inside G mon k o g q → Inside G mon k o h r) → Frames s h r
  go_on s g q h r (bottom g' q' i) f = bottom h r (f m p i)
  go_on s g q h r (frame s' g' q' e h' r' c x z i) f = frame s' g' q' e h r c x z (f e.label _ i)

  -- a return that does not pop below t
  pub pops : (s : List ℕ) (g q y : ℕ) (s' : List ℕ) → Frames s g q → s ≡ y ∷ s' → On t s' → T (node G g).ret
      → Frames s' y (mon q (returns_to (meth G g) (meth G y)))
  pops s g q y s' (bottom g' q' i) eq o b = absurd (omega (arith, ap length eq, ap length o.1, length-append o.0 t))
  pops s g q y s' (frame u g' q' e h r c x z i) eq o b =
      subst₂ (λ (v : List ℕ) (w : ℕ). Frames v w (mon q (returns_to (meth G g) (meth G w)))) (tail-eq_of_cons-eq eq) (head-eq_of_cons-eq eq)
      (go_on u g' q' e.to _ c (λ k a j. over k a g' q' e h r j x z i b))
