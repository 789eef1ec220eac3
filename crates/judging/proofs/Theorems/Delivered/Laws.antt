-- The theorems of specs/Delivered/Laws that rest on a definition which a must-fail edit turns: there they could not be read under the edit.
-- Laws: Judging deliveries is refused by the first line of its published order that applies; otherwise it says what judging says of the graph file that assembling writes. A file
-- with a delivery more is judged as its standing deliveries alone, in any order.
use Rattle.std.specs.Prelude.{◌≡◌, List, ℕ}
use Rattle.std.proofs.Common.{subst, arith}
use Rattle.files.specs.Assemble.{standing_graph}
use Rattle.files.specs.Decode.{decode_property, graph_bytes}
use Rattle.files.specs.Decode.Written.{decode_bytes}
use Rattle.files.specs.Graph.{Graph}
use Rattle.files.specs.Outcome.{Said, says}
use Rattle.files.specs.declared.record.Limits.{Limits}
use Rattle.judging.specs.Delivered.{delivered}
use Rattle.judging.specs.Judge.{Judges}
use Rattle.judging.proofs.Theorems.Judge.Laws.{judge_says}
use Rattle.judging.specs.Places.{judge_room}
use Rattle.judging.specs.Delivered.Laws.{delivered_is_judged}

module _ (L : Limits) (l p : List ℕ) (out store work : ℕ) where
  -- so it says what `Judges` says, of the standing graph
  pub delivered_says : (s : Said) → delivered L l p out store work ≡ says s → Judges (standing_graph l) (decode_property p) s
  delivered_says s e =
      subst (λ (G : Graph). Judges G (decode_property p) s) (decode_bytes (standing_graph l))
      (judge_says L (graph_bytes (standing_graph l)) p out judge_room s ((delivered_is_judged L l p out store work) s e judge_room (omega arith)))
