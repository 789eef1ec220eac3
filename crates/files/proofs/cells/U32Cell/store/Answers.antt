use mathlib.Core.Path.{sym, ap, ◌∙◌}
use Rattle.files.specs.Cells.{put_at}
use Rattle.files.specs.Cells.Laws.{put_little_four}
use Rattle.files.proofs.AccessLaws.{put_four_is}
use Rattle.files.proofs.cells.U32Cell.store.Goals as goal

pub returns : goal.returns
returns c =
    let a = c.args in
    c.copy_at.ensures ∙ ap (put_at a.work.now _) c.to_le_bytes.ensures ∙ sym (put_four_is a.work.now _ _ _ _ _ c.requires) ∙ sym (put_little_four a.work.now a.at a.self)
