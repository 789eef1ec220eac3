-- The call "judge_deliveries": the standing deliveries of one file judged against a property.
use Rattle.std.specs.Prelude.{◌||◌, ◌⊎◌, List, ℕ, ◌+◌, ◌*◌, ◌<◌}
use Rattle.files.specs.Assemble.{delivery_checks, delivery_lines, standing_graph, standing_lines}
use Rattle.files.specs.Decode.{decode_property}
use Rattle.files.specs.Deliveries.{decode_deliveries, repeated}
use Rattle.files.specs.Limits.{desk}
use Rattle.files.specs.Outcome.{Said, Outcome, Check, whole_check, file_checks, out_check, answered, Lines, whole_line, file_lines, out_line, short, too_large}
use Rattle.files.specs.Places.{record_len}
use Rattle.files.specs.Refusal.{property}
use Rattle.files.specs.declared.record.Limits.{Limits}
use Rattle.judging.specs.Judge.{judge_said}
use Rattle.judging.specs.Places.{judge_room}
pub mod Laws
pub mod Work
pub mod Meaning

-- the published length of the buffer that holds the standing graph's bytes
abbrev pub deliveries_store : ℕ
deliveries_store = record_len * (desk.nodes + desk.edges)

-- the numbers before the standing graph, before those that follow: "14 .. after 8", so after every file's numbers
abbrev pub delivered_first : Limits → List ℕ → List ℕ → ℕ → ℕ → List Check → List Check
delivered_first L l p store work cs =
    whole_check 13 (short deliveries_store store || short judge_room work)
    (delivery_checks L 1 l (file_checks L 2 property p (whole_check 14 (repeated (decode_deliveries l)) cs)))

-- the file of deliveries, then the property; `out`, `store` and `work` are the lengths of the buffers
module _ (L : Limits) (l p : List ℕ) (out store work : ℕ) where
  -- the verdict on the standing graph, whose numbers the fault sheet has
  abbrev pub delivered_verdict : Said
  delivered_verdict = judge_said (standing_graph l) (decode_property p)

  -- what is left to the work: "11 the result"
  abbrev pub delivered_last : List Check
  delivered_last = whole_check 11 (too_large L (standing_graph l)) (out_check out delivered_verdict)

  abbrev pub delivered_checks : List Check
  delivered_checks = delivered_first L l p store work delivered_last

  abbrev pub delivered_lines : Lines
  delivered_lines =
      whole_line 13 ((store < deliveries_store) ⊎ (work < judge_room))
      (delivery_lines L 1 l (file_lines L 2 property p (standing_lines L l (out_line out delivered_verdict))))

  pub delivered : Outcome
  delivered = answered delivered_checks delivered_verdict
