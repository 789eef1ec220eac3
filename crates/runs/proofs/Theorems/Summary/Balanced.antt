-- The theorems of specs/Summary/Balanced that rest on a definition which a must-fail edit turns: there they could not be read under the edit.
-- Balanced: A summary holds a return state exactly when some run of the method, on an unbounded stack that it never pops below, gives it.
use Rattle.std.specs.Prelude.{◌≡◌, refl, ◌↔◌, List, [], ◌∷◌, ℕ, T}
use Rattle.std.proofs.Common.{sym, subst, ◌∙◌}
use Rattle.files.specs.Graph.{Graph, node, EntryOf}
use Rattle.files.specs.Rules.{Monitor}
use Rattle.runs.specs.Runs.{Config, plain, internal, call, return, cfg, Above, stay, next_step}
use Rattle.runs.specs.Summary.{Inside, enter, inner, over, Yields}
use Rattle.runs.specs.Summary.Frames.{Frames, bottom}
use Rattle.runs.proofs.Theorems.Summary.Frames.{step_frames}
use Rattle.runs.specs.Summary.Balanced.{above_join, above_less, frames_inside}

module _ (G : Graph) (mon : Monitor) where
  -- a run inside a method, from one of its entries, on any stack
  pub inside_above : (m p g q : ℕ) → Inside G mon m p g q → (n : ℕ) × EntryOf G m n × ((s : List ℕ) → Above G (plain G) mon s (cfg n s p) (cfg g s q))
  inside_above m p g q (enter m' p' n e) = (n, e, λ s. stay ([], refl))
  inside_above m p g q (inner m' p' g' q' e i r z) =
      let a = inside_above m' p' g' q' i in (a.0, a.1, λ s. next_step (cfg g' s q') _ (a.2 s) (internal e r z) ([], refl))
  inside_above m p g q (over m' p' g' q' e r t i x z j b) =
      let a = inside_above m' p' g' q' i in
      let c = inside_above e.label _ r t j in (
        a.0,
        a.1,
        λ s. next_step (cfg r (e.to ∷ s) t) _
            ((above_join G mon) s _ _ _ (next_step (cfg g' s q') _ (a.2 s) (call e c.0 x z c.1) (e.to ∷ [], refl)) ((above_less G mon) e.to s _ _ (c.2 (e.to ∷ s))))
            (return e.to s b refl) ([], refl),
      )

module _ (G : Graph) (mon : Monitor) (m p : ℕ) (t : List ℕ) where
  above_frames : (n : ℕ) → EntryOf G m n → (c : Config) → Above G (plain G) mon t (cfg n t p) c → Frames G mon m p t c.stack c.at c.state
  above_frames n d c (stay h) = bottom n p (enter m p n d)
  above_frames n d c (next_step b e a x h) = step_frames G mon m p t b e (above_frames n d b a) x h

-- a run from an entry of m, above the stack on which it starts, that is back at that stack is one inside m
pub above_inside : (G : Graph) (mon : Monitor) (m : ℕ) (t : List ℕ) (a b : Config) → EntryOf G m a.at → a.stack ≡ t → b.stack ≡ t → Above G (plain G) mon t a b
    → Inside G mon m a.state b.at b.state
above_inside G mon m t a b d e f v =
    frames_inside G mon m a.state a.stack b.stack b.at b.state
    (above_frames G mon m a.state a.stack a.at d b (subst (λ (s : List ℕ). Above G (plain G) mon s a b) (sym e) v)) (f ∙ sym e)

-- A whole call of m, entered in state p, can end in state s exactly where a run from an entry of m to a return node, on whatever stack and above it, ends in s.
pub yields_runs : (G : Graph) (mon : Monitor) (m p s : ℕ) → Yields G mon m p s ↔ ((n : ℕ) × (g : ℕ) × EntryOf G m n × T (node G g).ret × ((t : List ℕ) → Above G (plain G) mon t (cfg n t p) (cfg g t s)))
yields_runs G mon m p s = (
  λ y. let a = inside_above G mon m p y.at s y.inside in (a.0, y.at, a.1, y.returning, a.2),
  λ a. record {
    at = a.1;
    inside = frames_inside G mon m p [] [] a.1 s (above_frames G mon m p [] a.0 a.2 (cfg a.1 [] s) (a.4 [])) refl;
    returning = a.3;
  },
)
