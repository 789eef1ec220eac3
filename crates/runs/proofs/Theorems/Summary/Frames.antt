-- The theorems of specs/Summary/Frames that rest on a definition which a must-fail edit turns: there they could not be read under the edit.
-- Frames: The frames of a stack above a stack t on which method m was entered in state p: steps that stay above t keep them.
use Rattle.std.specs.Prelude.{ℕ}
use mathlib.Core.List.{List}
use Rattle.files.specs.Graph.{Graph}
use Rattle.files.specs.Rules.{Monitor}
use Rattle.runs.specs.Runs.{Config, plain, On, Step, internal, call, return}
use Rattle.runs.specs.Summary.{enter, inner}
use Rattle.runs.specs.Summary.Frames.{Frames, frame, go_on, pops}

module _ (G : Graph) (mon : Monitor) (m p : ℕ) (t : List ℕ) where
  pub step_frames : (b c : Config) → (Frames G mon m p t) b.stack b.at b.state → Step G (plain G) mon b c → On t c.stack → (Frames G mon m p t) c.stack c.at c.state
  step_frames b c f (internal e x z) o = (go_on G mon m p t) b.stack b.at b.state e.to b.state f (λ k a i. inner k a b.at b.state e i x z)
  step_frames b c f (call e n x z d) o = frame b.stack b.at b.state e n _ f x z (enter e.label _ n d)
  step_frames b c f (return y s v z) o = (pops G mon m p t) b.stack b.at b.state y s f z o v
