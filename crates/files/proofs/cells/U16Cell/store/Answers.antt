use mathlib.Core.Path.{sym, ap, ◌∙◌}
use Rattle.files.specs.Cells.{put_at}
use Rattle.files.specs.Cells.Laws.{put_little_two}
use Rattle.files.proofs.AccessLaws.{put_two_is}
use Rattle.files.proofs.cells.U16Cell.store.Goals as goal

pub returns : goal.returns
returns c =
    let a = c.args in
    c.copy_at.ensures ∙ ap (put_at a.work.now _) c.to_le_bytes.ensures ∙ sym (put_two_is a.work.now _ _ _ c.requires) ∙ sym (put_little_two a.work.now a.at a.self)
