use mathlib.Core.Path.{sym, ap, ◌∙◌}
use mathlib.Core.Bool.{◌&&◌}
use native.Mathlib.Omega.{arith}
use lib.Dec.{eqb}
use Rattle.files.specs.Decode.{decode_graph}
use Rattle.files.specs.Decode.Graphs.{decoded_size}
use Rattle.files.specs.Sides.Entries.{one_found, none_found}
use Rattle.files.specs.declared.graph.GraphNode.{GraphNode}
use Rattle.files.proofs.sides.has_entry.Goals as goal

pub returns-then-v-m : goal.returns-then-v-m
returns-then-v-m c =
    let a = c.args in
    let file = c.requires.0 in
    let loop = c.loop-n in
    one_found (decode_graph a.graph.now) a.m loop.n (omega (arith, c.requires.1, decoded_size file.limits a.graph.now file.accepted))
    (sym (ap (λ (v : GraphNode). v.entry && eqb v.method a.m) c.node_at-v.ensures) ∙ c.if-v-m.true)

pub returns : goal.returns
returns c =
    let a = c.args in
    let file = c.requires.0 in
    let loop = c.loop-n in
    none_found (decode_graph a.graph.now) a.m loop.n (omega (arith, c.requires.1, decoded_size file.limits a.graph.now file.accepted)) loop.invariant
