use mathlib.Core.Path.{◌≡◌, sym, ap, subst, ◌∙◌}
use Prim.Native.Nat.{ℕ, ◌≤◌, ◌<◌}
use lib.Dec.{T}
use lib.ListN.{length, get_or}
use Rattle.files.specs.Access.{aims_along}
use Rattle.files.specs.Access.Boxes.{along_is}
use Rattle.files.specs.Decode.{decode_graph}
use Rattle.files.specs.Graph.{no_edge}
use Rattle.judging.specs.Places.{judge_room, max_pairs}
use Rattle.judging.proofs.LevelLaws.{from_in, may_give, gave}
use Rattle.files.specs.declared.graph.GraphEdge.{GraphEdge}
use Rattle.judging.specs.Ranking.{pair, rank_at, given, tail_after}
use Rattle.judging.proofs.levels.arrive.Goals as goal

pub give-requires : goal.give-requires
give-requires c =
    let a = c.args in
    let h = c.edge_at-edge.ensures in
    let m = may_give a.s a.graph.now a.property.now c.requires.0 a.k a.tail a.work.now c.requires.1.1.1.0 (get_or (decode_graph a.graph.now).edges a.e no_edge).from a.q (from_in a.s a.graph.now a.property.now c.requires.0 a.e c.requires.1.0) c.requires.1.1.0 (c.requires.1.1.1.1 (subst T (sym c.if-is_some.true ∙ c.is_some.ensures ∙ along_is a.x _ c.obliged.ensures ∙ ap (λ (u : GraphEdge). aims_along a.x u.label) h) tt)) in
    subst (λ (n : ℕ). (pair n a.q < max_pairs) × ((rank_at a.work.now n a.q ≡ 0 → a.tail < max_pairs) × ((judge_room ≤ length a.work.now) × (a.k ≤ max_pairs)))) (sym (ap (λ (u : GraphEdge). u.from) h)) m

pub returns-then-is_some : goal.returns-then-is_some
returns-then-is_some c =
    let a = c.args in
    let h = c.edge_at-edge.ensures in
    let x = gave a.s a.graph.now a.property.now c.requires.0 a.k a.tail a.work.now c.requires.1.1.1.0 (get_or (decode_graph a.graph.now).edges a.e no_edge).from a.q (from_in a.s a.graph.now a.property.now c.requires.0 a.e c.requires.1.0) c.requires.1.1.0 (c.requires.1.1.1.1 (subst T (sym c.if-is_some.true ∙ c.is_some.ensures ∙ along_is a.x _ c.obliged.ensures ∙ ap (λ (u : GraphEdge). aims_along a.x u.label) h) tt)) c.give.result c.give.new.work
    (subst (λ (n : ℕ). (c.give.result ≡ tail_after a.work.now a.tail n a.q) × (c.give.new.work ≡ given a.work.now a.tail n a.q a.k)) (ap (λ (u : GraphEdge). u.from) h) c.give.ensures) in
    (x.0, λ t. x.1)
