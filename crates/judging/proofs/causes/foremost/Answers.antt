use mathlib.Core.Path.{◌≡◌, sym, ap, ◌∙◌}
use native.Mathlib.Omega.{arith}
use Rattle.files.specs.Decode.{decode_graph, decode_property}
use Rattle.judging.proofs.CauseLaws.{edges_start, edge_there, best_start, best_le, best_turn, best_end}
use Prim.Native.Nat.{ℕ, ◌+◌}
use Rattle.files.specs.Access.{first_edge, looked_at, aims_along}
use Rattle.files.specs.Basics.First.{first_or}
use Rattle.judging.specs.Ranking.Files.{size_is}
use Rattle.judging.specs.Sheets.{best_target}
use Rattle.judging.proofs.causes.foremost.Goals as goal

pub loop-j-init : goal.loop-j-init
loop-j-init c =
    let a = c.args in
    let n = size_is a.s a.graph.now a.property.now c.requires.0 in
    let e : c.get-end.result ≡ first_edge (decode_graph a.graph.now) (a.g + 1) = c.get-end.ensures ∙ c.requires.1.1.1.firsts (a.g + 1) (omega (arith, c.requires.1.0, n)) in
    let d : c.get-start.result ≡ first_edge (decode_graph a.graph.now) a.g = c.get-start.ensures ∙ c.requires.1.1.1.firsts a.g (omega (arith, c.requires.1.0, n)) in
    (omega (arith, d), e, best_start a.s a.graph.now a.property.now c.requires.0 a.g (aims_along a.x) (looked_at a.x) ∙ ap (λ (i : ℕ). first_or (best_target (decode_graph a.graph.now) (decode_property a.property.now) a.g (aims_along a.x) (looked_at a.x) i) a.s.graph.nodes) (sym d))

pub better-best-requires : goal.better-best-requires
better-best-requires c =
    let a = c.args in
    let l = c.loop-j in
    (c.requires.0, (c.requires.1.1.0, (best_le a.s a.graph.now a.property.now c.requires.0 a.g (aims_along a.x) (looked_at a.x) l.j l.best l.invariant.2 (omega (arith, l.invariant.1)), (edge_there a.s a.graph.now a.property.now c.requires.0 a.g (aims_along a.x) (looked_at a.x) l.j (omega (arith, l.invariant.1)), c.requires.1.1.1))))

pub loop-j-preserved : goal.loop-j-preserved
loop-j-preserved c =
    let a = c.args in
    let l = c.loop-j in
    (omega (arith, l.invariant.0), l.invariant.1, best_turn a.s a.graph.now a.property.now c.requires.0 a.g (aims_along a.x) (looked_at a.x) l.j l.best l.invariant.2 c.better-best.result l.invariant.0 (omega (arith, l.invariant.1)) c.better-best.ensures)

pub returns : goal.returns
returns c =
    let a = c.args in
    let l = c.loop-j in
    best_end a.s a.graph.now a.property.now c.requires.0 a.g (aims_along a.x) (looked_at a.x) l.j l.best l.invariant.2 (omega (arith, edges_start a.s a.graph.now a.property.now c.requires.0 a.g (aims_along a.x) (looked_at a.x), l.invariant.1, size_is a.s a.graph.now a.property.now c.requires.0, c.requires.1.1.1.firsts a.g))
