use Rattle.files.specs.Decode.{decode_property}
use Rattle.judging.specs.Chains.{Chained, Outside, uses}
use Rattle.judging.specs.Places.{judge_room, row_heads_base, row_nexts_base}
use Rattle.judging.proofs.chains.link_places.Given as goal

abbrev pub invariant-loop-j : goal.invariant-loop-j
invariant-loop-j l = (Chained l.work row_heads_base row_nexts_base (uses (decode_property l.property)) l.s.rows l.j) × (Outside row_heads_base judge_room l.initial.work l.work)
