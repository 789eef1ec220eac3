use Rattle.std.proofs.Common.{refl, sym, subst, ◌∙◌, ℕ, ◌+◌, ◌*◌, List, length, replicate, arith, lit≤, rules, ◌≤◌}
use Rattle.std.proofs.lemmas.List.{get_or-replicate}
use Rattle.std.proofs.lemmas.Slice.{put_mid-paste}
use Rattle.files.specs.Cells.{put_at}
use Rattle.files.specs.Cells.Laws.{copy_all, at_inside, at_outside}
use Rattle.files.specs.Places.{line_bytes}
use Rattle.maximal.specs.Places.{targets_base}
use Rattle.maximal.proofs.SlotLaws.{Filled, cleared_all}
use Rattle.maximal.proofs.explore.clear_row.Goals as goal

pub returns : goal.returns
returns c =
    let w = c.args.work.now in
    let q = c.args.q in
    let from = targets_base + line_bytes * q in
    let zeros : List ℕ = replicate 32 0 in
    let room : from + 32 ≤ length w = omega (arith, c.requires) in
    let filled : Filled w q (λ (i : ℕ). 0) 32 (put_at w from zeros) = (λ i h. at_inside w from zeros i h room ∙ get_or-replicate 32 i 0 0 h, λ b d. at_outside w from zeros b d room) in
    let put = copy_all w zeros _ from 32 refl (put_mid-paste from _ w _ zeros 32 (search rules) (omega arith) refl) in
    let x = subst (Filled w q (λ (i : ℕ). 0) 32) (sym put) filled in
    (cleared_all w _ q 32 x (lit≤ tt), x.1)
