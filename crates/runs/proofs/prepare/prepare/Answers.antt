use native.Mathlib.Omega.{arith}
use Rattle.runs.proofs.PrepareLaws.{groups_none, tables_are}
use Rattle.runs.proofs.prepare.prepare.Goals as goal

pub link_groups-requires : goal.link_groups-requires
link_groups-requires c =
    let a = c.args in
    let m = c.put_steps in
    let f = c.put_firsts in (
      c.requires.0,
      (
        omega (arith, f.auto.work, m.auto.work, c.requires.1.1),
        groups_none a.s a.graph.now a.rules.now c.requires.0 a.work.now m.new.work f.new.work c.requires.1.0 m.ensures.1 f.ensures.1,
      ),
    )

pub returns : goal.returns
returns c =
    let a = c.args in
    let m = c.put_steps in
    let f = c.put_firsts in
    let l = c.link_groups in
    tables_are a.s a.graph.now a.rules.now c.requires.0 a.work.now m.new.work f.new.work c.requires.1.0 m.ensures.1 f.ensures.1
    l.new.work m.ensures.0 f.ensures.0 l.ensures.1 l.ensures.0
