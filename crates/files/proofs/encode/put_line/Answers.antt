use Rattle.std.proofs.Common.{sym, ap, ◌∙◌, arith, ◌*◌, ◌+◌}
use Rattle.std.proofs.lemmas.List.{ext_get_or}
use Rattle.std.proofs.lemmas.List.Edits.{get_or-between}
use Rattle.files.specs.Cells.{has_bit, put_at}
use Rattle.files.specs.Line.{relation_line}
use Rattle.files.specs.Line.Laws.{line_size, line_byte}
use Rattle.files.proofs.encode.put_line.Goals as goal

pub returns : goal.returns
returns c =
    let l = c.args.rows.now in
    let b = c.args.base in
    let v = has_bit l b in
    c.copy_at.ensures
    ∙ ap (put_at c.args.out.now (32 * c.args.g))
    (ext_get_or 0 _ (relation_line v) (omega (arith, line_size v)) (λ k h. get_or-between l b _ k 0 (omega arith) ∙ sym (line_byte l b k (omega (arith, c.type_inv.rows (b + k))) (omega arith))))
