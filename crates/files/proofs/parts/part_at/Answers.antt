use mathlib.Core.Path.{refl, ap, ◌∙◌}
use native.Mathlib.Omega.{arith}
use Rattle.files.specs.Refusal.{graph, nodes_of}
use Rattle.files.specs.Checking.Laws.{counted_is}
use Rattle.files.specs.Deliveries.Parts.{end_from, end_to}
use Rattle.files.specs.Deliveries.Names.{part_bytes}
use Rattle.files.proofs.parts.part_at.Goals as goal

pub records_in-requires : goal.records_in-requires
records_in-requires c = (omega (arith, c.part_end-e.ensures, end_from c.args.file.now c.args.a), omega (arith, c.part_end-e.ensures, end_to c.args.file.now c.args.a c.requires))

pub returns : goal.returns
returns c =
    let a = c.args in
    let l = a.file.now in
    let e = c.part_end-e in
    record {
      start_at = refl;
      end_at = e.ensures;
      nodes_at = c.count-nodes.ensures ∙ counted_is graph c.records_in.result.now
          ∙ ap nodes_of (c.records_in.ensures ∙ part_bytes l a.a e.result (omega (arith, e.ensures, end_from l a.a)) e.ensures);
    }
