-- A graph as the result of a call that has counted its nodes and edges: 11, 12, or written, as the code asks for them.
use Rattle.std.specs.Prelude.{◌≡◌, Bool, true, false, ◌||◌, List, ◌∷◌, ℕ, ◌+◌, ◌*◌, ◌≤◌, ◌<◌, T, ltb, length}
use Rattle.std.proofs.Common.{sym, ap, ap₂, subst, ◌∙◌, arith}
use Rattle.files.specs.Cells.{put_at}
use Rattle.files.specs.Cells.Laws.{put_front}
use Rattle.files.specs.Decode.{graph_bytes}
use Rattle.files.specs.Decode.Written.{graph_length}
use Rattle.files.specs.Graph.{Graph, size}
use Rattle.files.specs.Outcome.{Said, Outcome, refuses, Answer, Answers, answered, refused_answer, verdict_answer, refusal_at, whole_check, out_check, too_large, TooLarge, graph_said}
use Rattle.files.specs.Outcome.Ends.{answers_large, answers_short, answers_written, answers_refused, answers_same, whole_refuses, whole_passes}
use Rattle.files.specs.Outcome.Laws.{says_too_large, small_enough}
use Rattle.files.specs.Places.{record_len}
use Rattle.files.specs.Settling.{told}
use Rattle.files.specs.declared.record.Limits.{Limits}
use Rattle.files.specs.declared.refusal.Refusal.{Refusal}

-- 11, as the code asks it of the counts
abbrev pub over_limits : Limits → ℕ → ℕ → Bool
over_limits L n e = ltb L.nodes n || ltb L.edges e

module _ (L : Limits) (G : Graph) {n e : ℕ} (nodes_are : n ≡ size G) (edges_are : e ≡ length G.edges) where
  over_is : over_limits L n e ≡ too_large L G
  over_is = ap₂ (over_limits L) nodes_are edges_are

  pub counted_large : over_limits L n e ≡ true → TooLarge L G
  counted_large t = (says_too_large L G).say (subst T (sym t ∙ over_is) tt)

  pub counted_bytes : length (graph_bytes G) ≡ record_len * (n + e)
  counted_bytes = omega (arith, graph_length G, nodes_are, edges_are)

  module _ (within : over_limits L n e ≡ false) where
    pub counted_small : TooLarge L G → ⊥
    counted_small y = subst T (sym over_is ∙ within) ((says_too_large L G).hear y)

    pub counted_few : (n ≤ L.nodes) × (e ≤ L.edges)
    counted_few = let s = small_enough L G counted_small in (omega (arith, nodes_are, s.0), omega (arith, edges_are, s.1))

  module _ (more out : List ℕ) where
    abbrev sized : Outcome
    sized = answered (whole_check 11 (too_large L G) (out_check (length out) (graph_said G more))) (graph_said G more)

    pub large_refused : over_limits L n e ≡ true → (r : Refusal) → r ≡ refusal_at 11 0 0 → Answers sized out out (refused_answer r)
    large_refused t r d = answers_large L G more out r (counted_large t) d

    pub short_refused : over_limits L n e ≡ false → length out < record_len * (n + e) → (r : Refusal) → r ≡ refusal_at 12 0 0 → Answers sized out out (refused_answer r)
    short_refused within h r d = answers_short L G more out (counted_small within) r (omega (arith, h, counted_bytes)) d

    pub graph_written : over_limits L n e ≡ false → record_len * (n + e) ≤ length out → (out' : List ℕ) → out' ≡ put_at out 0 (graph_bytes G) → Answers sized out out' (verdict_answer 1 (n ∷ e ∷ more))
    graph_written within h out' d =
        answers_written L G more out (counted_small within) out' n e (omega (arith, h, counted_bytes)) (d ∙ put_front out (graph_bytes G)) nodes_are edges_are

  -- a verdict on the graph, where it is not too large
  module _ (said : Said) (out : List ℕ) where
    abbrev asked : Outcome
    asked = answered (whole_check 11 (too_large L G) (out_check (length out) said)) said

    pub verdict_large : over_limits L n e ≡ true → (r : Refusal) → r ≡ refusal_at 11 0 0 → Answers asked out out (refused_answer r)
    verdict_large t r d = answers_refused asked r out (whole_refuses 11 (too_large L G) (out_check (length out) said) said (sym over_is ∙ t) ∙ ap refuses (sym d))

    pub verdict_told : over_limits L n e ≡ false → {out' : List ℕ} {a : Answer} → Answers (told said (length out)) out out' a → Answers asked out out' a
    verdict_told t {out' = out'} {a = a} = answers_same (told said (length out)) asked out out' a (whole_passes 11 (too_large L G) (out_check (length out) said) said (sym over_is ∙ t))
