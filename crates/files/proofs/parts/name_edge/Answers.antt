use mathlib.Core.Path.{sym, ap, subst, ◌∙◌}
use Prim.Native.Nat.{ℕ, ◌-◌, ◌<◌}
use native.Mathlib.Omega.{arith}
use mathlib.Core.List.{List}
use Rattle.files.specs.Record.{count}
use Rattle.files.specs.Refusal.{graph, nodes_of}
use Rattle.files.specs.Checking.{Sound}
use Rattle.files.specs.Deliveries.Names.{held_within, edge_held}
use Rattle.files.proofs.parts.name_edge.Goals as goal

pub records_in-requires : goal.records_in-requires
records_in-requires c =
    let a = c.args in
    let w = held_within a.file.now c.requires.0 a.i c.requires.1.0 c.requires.1.1.1.1 a.part c.requires.1.1.0 in
    (omega (arith, w.from_start, w.to_end), w.end_in)

pub overflow_sub-i : goal.overflow_sub-i
overflow_sub-i c =
    let a = c.args in
    let w = held_within a.file.now c.requires.0 a.i c.requires.1.0 c.requires.1.1.1.1 a.part c.requires.1.1.0 in
    w.from_start

pub name_nodes-requires : goal.name_nodes-requires
name_nodes-requires c =
    let a = c.args in
    let w = held_within a.file.now c.requires.0 a.i c.requires.1.0 c.requires.1.1.1.1 a.part c.requires.1.1.0 in
    let e = c.records_in.ensures ∙ w.is_part in (
      subst (Sound graph) (sym e) w.part_is_sound,
      (
        w.nodes_are ∙ ap nodes_of (sym e),
        (subst (λ (m : List ℕ). a.i - a.part.start < count m) (sym e) w.number_within, omega (arith, w.from_start)),
      ),
    )

pub returns : goal.returns
returns c =
    let a = c.args in
    let w = held_within a.file.now c.requires.0 a.i c.requires.1.0 c.requires.1.1.1.1 a.part c.requires.1.1.0 in
    c.name_nodes.ensures ∙ edge_held a.file.now c.requires.0 a.i c.requires.1.0 c.requires.1.1.1.1 c.requires.1.1.1.0 a.position a.part c.requires.1.1.0 _ (c.records_in.ensures ∙ w.is_part)
