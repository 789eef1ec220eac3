use mathlib.Core.Path.{sym, subst}
use native.Mathlib.Omega.{arith}
use lib.Dec.{T}
use Rattle.files.specs.Decode.{decode_graph}
use Rattle.judging.specs.Refinement.Handing.{shrank_none}
use Rattle.judging.proofs.MatchLaws.{found, all_sifted, label_empty, label_done, may_drop}
use Rattle.judging.proofs.matches.hand_on_by.Goals as goal

pub returns-then-get-eq0 : goal.returns-then-get-eq0
returns-then-get-eq0 c = (shrank_none (decode_graph c.args.first.now) (decode_graph c.args.second.now) c.args.work.now c.requires.1.1.1.1.0, label_empty c.args.s c.args.first.now c.args.second.now c.requires.1.0 c.args.work.now c.requires.1.1.1.1.0 c.args.v c.args.label c.requires.1.1.0 c.requires.1.1.1.0 c.args.row.now c.get.result c.get.ensures c.if-get-eq0.true)

pub returns-then-not-any_at : goal.returns-then-not-any_at
returns-then-not-any_at c =
    let a = c.related_to_sources-related in
    let p = c.common-found in
    let o = c.row_without-gone in
    let n = c.common-asked in
    let y = c.sift in
    let candidates = found c.args.s c.args.first.now c.args.second.now c.requires.1.0 c.args.work.now c.requires.1.1.1.1.0 c.args.v c.args.label c.requires.1.1.0 c.requires.1.1.1.0 c.args.row.now c.args.met.now a.result p.result c.requires.1.1.1.1.1.0.0.0 c.requires.1.1.1.1.1.0.0.1 a.ensures.1.0 a.ensures.1.1 p.ensures.1 in
    let sifted = all_sifted c.args.s c.args.first.now c.args.second.now c.requires.1.0 c.args.work.now c.requires.1.1.1.1.0 c.args.v c.args.label c.requires.1.1.0 c.requires.1.1.1.0 c.args.row.now p.result n.result o.result y.new.gone c.args.near.now candidates c.requires.1.1.1.1.1.0.1 o.ensures.1 n.ensures.1 y.ensures in
    let z = shrank_none (decode_graph c.args.first.now) (decode_graph c.args.second.now) c.args.work.now c.requires.1.1.1.1.0 in
    (z, label_done c.args.s c.args.first.now c.args.second.now c.requires.1.0 c.args.work.now c.requires.1.1.1.1.0 c.args.v c.args.label c.requires.1.1.0 c.requires.1.1.1.0 c.args.row.now p.result y.new.gone c.args.work.now c.requires.1.1.1.1.1.1 candidates sifted z (λ e h he t l u i. subst T (c.any_at.ensures.1 (subst T (sym c.if-not-any_at.true-raw) tt) h l) i))

pub drop_from-requires : goal.drop_from-requires
drop_from-requires c =
    let a = c.related_to_sources-related in
    let p = c.common-found in
    let o = c.row_without-gone in
    let n = c.common-asked in
    let y = c.sift in
    let candidates = found c.args.s c.args.first.now c.args.second.now c.requires.1.0 c.args.work.now c.requires.1.1.1.1.0 c.args.v c.args.label c.requires.1.1.0 c.requires.1.1.1.0 c.args.row.now c.args.met.now a.result p.result c.requires.1.1.1.1.1.0.0.0 c.requires.1.1.1.1.1.0.0.1 a.ensures.1.0 a.ensures.1.1 p.ensures.1 in
    let sifted = all_sifted c.args.s c.args.first.now c.args.second.now c.requires.1.0 c.args.work.now c.requires.1.1.1.1.0 c.args.v c.args.label c.requires.1.1.0 c.requires.1.1.1.0 c.args.row.now p.result n.result o.result y.new.gone c.args.near.now candidates c.requires.1.1.1.1.1.0.1 o.ensures.1 n.ensures.1 y.ensures in
    (omega (arith, y.auto.gone, o.ensures.0), (c.requires.1.0, (omega (arith, c.requires.1.1.0, c.requires.1.1.1.0), (c.requires.1.1.1.1.0, may_drop c.args.s c.args.first.now c.args.second.now c.requires.1.0 c.args.work.now c.requires.1.1.1.1.0 c.args.v c.args.label c.requires.1.1.0 c.requires.1.1.1.0 c.args.row.now p.result y.new.gone c.requires.1.1.1.1.1.1 sifted))))

pub returns : goal.returns
returns c =
    let a = c.related_to_sources-related in
    let p = c.common-found in
    let o = c.row_without-gone in
    let n = c.common-asked in
    let y = c.sift in
    let candidates = found c.args.s c.args.first.now c.args.second.now c.requires.1.0 c.args.work.now c.requires.1.1.1.1.0 c.args.v c.args.label c.requires.1.1.0 c.requires.1.1.1.0 c.args.row.now c.args.met.now a.result p.result c.requires.1.1.1.1.1.0.0.0 c.requires.1.1.1.1.1.0.0.1 a.ensures.1.0 a.ensures.1.1 p.ensures.1 in
    let sifted = all_sifted c.args.s c.args.first.now c.args.second.now c.requires.1.0 c.args.work.now c.requires.1.1.1.1.0 c.args.v c.args.label c.requires.1.1.0 c.requires.1.1.1.0 c.args.row.now p.result n.result o.result y.new.gone c.args.near.now candidates c.requires.1.1.1.1.1.0.1 o.ensures.1 n.ensures.1 y.ensures in
    let d = c.drop_from in
    (d.ensures.0, label_done c.args.s c.args.first.now c.args.second.now c.requires.1.0 c.args.work.now c.requires.1.1.1.1.0 c.args.v c.args.label c.requires.1.1.0 c.requires.1.1.1.0 c.args.row.now p.result y.new.gone d.new.work c.requires.1.1.1.1.1.1 candidates sifted d.ensures.0 d.ensures.1)
