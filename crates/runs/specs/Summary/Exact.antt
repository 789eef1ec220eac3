-- Summaries are exact: a trail reaches what runs with an unbounded stack reach, and nothing else.
-- Its theorems that rest on a definition which a must-fail edit turns stand in proofs/Theorems/Summary/Exact.
use Rattle.std.specs.Prelude.{List, [], ℕ}
use Rattle.files.specs.Graph.{Graph, EntryOf}
use Rattle.files.specs.Rules.{Monitor}
use Rattle.runs.specs.Summary.{Inside, enter, inner, over, Trail, starts, steps, enters, passes}
use Rattle.runs.specs.Summary.Frames.{Frames, bottom, frame}

module _ (G : Graph) (mon : Monitor) (k : ℕ) where
  -- ---- complete: each frame of a stack was entered by a call, and the method on top has come to where it is

  inside_trail : (m p g q : ℕ) → Inside G mon m p g q → ((n : ℕ) → EntryOf G m n → Trail G mon k n p) → Trail G mon k g q
  inside_trail m p g q (enter m' p' n e) f = f n e
  inside_trail m p g q (inner m' p' g' q' e i r z) f = steps g' q' e (inside_trail m' p' g' q' i f) r z
  inside_trail m p g q (over m' p' g' q' e r t i x z j b) f = passes g' q' e r t (inside_trail m' p' g' q' i f) x z j b

  pub frames_trail : (s : List ℕ) (g q : ℕ) → Frames G mon k 0 [] s g q → Trail G mon k g q
  frames_trail s g q (bottom g' q' i) = inside_trail k 0 g' q' i (λ n e. starts n e)
  frames_trail s g q (frame u g' q' e h r c x z i) =
      inside_trail e.label _ h r i (λ n d. enters g' q' e n (frames_trail u g' q' c) x z d)
