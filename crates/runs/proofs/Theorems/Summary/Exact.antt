-- The theorems of specs/Summary/Exact that rest on a definition which a must-fail edit turns: there they could not be read under the edit.
-- Exact: Summaries are exact: a trail reaches what runs with an unbounded stack reach, and nothing else.
use Rattle.std.specs.Prelude.{refl, ◌↔◌, List, [], ◌∷◌, ℕ}
use Rattle.std.proofs.Common.{sym, append-nil}
use Rattle.files.specs.Graph.{Graph, EntryOf}
use Rattle.files.specs.Rules.{Monitor}
use Rattle.runs.specs.Runs.{Config, cfg, plain, internal, call, return, Run, start, then}
use Rattle.runs.specs.Summary.{Inside, enter, inner, over, Trail, starts, steps, enters, passes}
use Rattle.runs.specs.Summary.Frames.{Frames, bottom}
use Rattle.runs.proofs.Theorems.Summary.Frames.{step_frames}
use Rattle.runs.specs.Summary.Exact.{frames_trail}

module _ (G : Graph) (mon : Monitor) (k : ℕ) where
  -- ---- sound: what is inside a method happens on top of any stack on which the method was entered

  inside_run : (m p g q : ℕ) → Inside G mon m p g q → (s : List ℕ) → ((n : ℕ) → EntryOf G m n → Run G (plain G) mon k (cfg n s p)) → Run G (plain G) mon k (cfg g s q)
  inside_run m p g q (enter m' p' n e) s f = f n e
  inside_run m p g q (inner m' p' g' q' e i r z) s f = then (inside_run m' p' g' q' i s f) (internal e r z)
  inside_run m p g q (over m' p' g' q' e r t i x z j b) s f =
      then (inside_run e.label _ r t j (e.to ∷ s) (λ n d. then (inside_run m' p' g' q' i s f) (call e n x z d))) (return e.to s b refl)

  trail_run : (g q : ℕ) → Trail G mon k g q → (s : List ℕ) × Run G (plain G) mon k (cfg g s q)
  trail_run g q (starts n e) = ([], start n e)
  trail_run g q (steps g' q' e t r z) = let a = trail_run g' q' t in (a.0, then a.1 (internal e r z))
  trail_run g q (enters g' q' e n t r z d) = let a = trail_run g' q' t in (e.to ∷ a.0, then a.1 (call e n r z d))
  trail_run g q (passes g' q' e r t y x z j b) =
      let a = trail_run g' q' y in
      (a.0, then (inside_run e.label _ r t j (e.to ∷ a.0) (λ n d. then a.1 (call e n x z d))) (return e.to a.0 b refl))

  run_frames : (c : Config) → Run G (plain G) mon k c → Frames G mon k 0 [] c.stack c.at c.state
  run_frames c (start n e) = bottom n 0 (enter k 0 n e)
  run_frames c (then {c = b} r s) = step_frames G mon k 0 [] b c (run_frames b r) s (c.stack, sym (append-nil c.stack))

  -- A trail reaches node g in state q exactly where some run does, whatever its stack.
  pub exact : (g q : ℕ) → Trail G mon k g q ↔ ((s : List ℕ) × Run G (plain G) mon k (cfg g s q))
  exact g q = (trail_run g q, λ a. (frames_trail G mon k) a.0 g q (run_frames (cfg g a.0 q) a.1))
