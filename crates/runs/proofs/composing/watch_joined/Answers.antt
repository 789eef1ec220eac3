-- The second graph stands at the start of `store`, so both graphs can be joined into `work`; the rest is what is told of a join.
-- the second graph's bytes, where they stand in the buffer
use mathlib.Core.List.{List}
use Prim.Native.Nat.{ℕ, ◌+◌, ◌*◌}
use native.Mathlib.Omega.{arith}
use lib.ListN.{take}
use Rattle.files.specs.Places.{record_len}
use Rattle.judging.specs.declared.sizes.Sizes.{Sizes}
use Rattle.runs.specs.Answer.{watched_answer}
use Rattle.runs.specs.Composing.Joined.{joint_ready, joint_told}
use Rattle.runs.proofs.composing.watch_joined.Goals as goal

abbrev second : Sizes → List ℕ → List ℕ
second s l = take (record_len * (s.second.nodes + s.second.edges)) l

pub watch_joint-requires : goal.watch_joint-requires
watch_joint-requires c =
    let a = c.args in
    let j = c.join_into-joint in
    (joint_ready a.limits a.barred a.s a.graph.now (second a.s a.store.now) a.rules.now a.start a.out.now c.requires.0 c.requires.1.0 c.requires.1.1.0 a.work.now j.new.work (omega (arith, c.requires.1.1.1.1, j.auto.work)) j.result j.ensures, omega (arith, c.requires.1.1.1.0))

pub returns : goal.returns
returns c =
    let a = c.args in
    let j = c.join_into-joint in
    let t = c.watch_joint in
    joint_told a.limits a.barred a.s a.graph.now (second a.s a.store.now) a.rules.now a.start a.out.now c.requires.0 a.work.now j.new.work t.new.out (watched_answer t.result) j.result j.ensures t.ensures
