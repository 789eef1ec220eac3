use mathlib.Core.Path.{sym, subst}
use Prim.Native.Nat.{ℕ, ◌<◌}
use native.Mathlib.Omega.{arith}
use Rattle.files.specs.Basics.Lists.{span}
use Rattle.files.specs.Decode.{decode_graph, decode_rules}
use Rattle.files.specs.Rules.{watch}
use Rattle.runs.specs.Prepared.Files.{monitor_small}
use Rattle.runs.specs.Searching.{place, passed_recs, passed_at}
use Rattle.runs.specs.Searching.Looks.{may_same}
use Rattle.runs.proofs.SearchLaws.{node_small, passed_list, call_fits, ends_are}
use Rattle.runs.proofs.SummaryLaws.{to_in, to_is, label_is}
use Rattle.runs.proofs.passed.look_passed.Goals as goal

pub step-p-requires : goal.step-p-requires
step-p-requires c =
    let a = c.args in
    let at = c.requires.1.1.1.1.1.0 in
    let may = c.requires.1.1.1.1.1.1 in
    let h = c.edge_at-e.ensures in
    let f = call_fits a.s a.graph.now a.rules.now c.requires.0 a.start a.head a.tail a.work.now a.g a.q at a.j c.requires.1.1.0 c.requires.1.1.1.0 _ h
    c.if-e-eq0.false a.method c.requires.1.1.1.1.0 in
    (may.searching.tables.steps, (may.searching.room, (at.now_small, (omega arith, (omega arith, f)))))

pub bounds-table-e : goal.bounds-table-e
bounds-table-e c =
    let a = c.args in
    let at = c.requires.1.1.1.1.1.0 in
    let h = c.edge_at-e.ensures in
    let f = call_fits a.s a.graph.now a.rules.now c.requires.0 a.start a.head a.tail a.work.now a.g a.q at a.j c.requires.1.1.0 c.requires.1.1.1.0 _ h
    c.if-e-eq0.false a.method c.requires.1.1.1.1.0 in
    omega (arith, f.1.1.0, f.1.1.1)

pub bounds-table-p : goal.bounds-table-p
bounds-table-p c =
    let a = c.args in
    let at = c.requires.1.1.1.1.1.0 in
    subst (λ (i : ℕ). i < 8) (sym c.step-p.ensures) (monitor_small a.s a.graph.now a.rules.now c.requires.0 a.q _ at.now_small)

pub step_set-ends-requires : goal.step_set-ends-requires
step_set-ends-requires c =
    let a = c.args in
    let at = c.requires.1.1.1.1.1.0 in
    let may = c.requires.1.1.1.1.1.1 in
    let h = c.edge_at-e.ensures in
    let f = call_fits a.s a.graph.now a.rules.now c.requires.0 a.start a.head a.tail a.work.now a.g a.q at a.j c.requires.1.1.0 c.requires.1.1.1.0 _ h
    c.if-e-eq0.false a.method c.requires.1.1.1.1.0 in
    (c.requires.0, (may.searching.tables.steps, (may.searching.room, (omega arith, (omega arith, (f.1.1.0, (f.1.1.1, (f.0, f.1.0))))))))

pub overflow_cast-e : goal.overflow_cast-e
overflow_cast-e c =
    let a = c.args in
    let h = c.edge_at-e.ensures in
    omega (arith, node_small a.s a.graph.now a.rules.now c.requires.0 _ (to_in a.s a.graph.now a.rules.now c.requires.0 a.j c.requires.1.1.0 _ h))

pub look_states-requires : goal.look_states-requires
look_states-requires c =
    let a = c.args in
    let at = c.requires.1.1.1.1.1.0 in
    let may = c.requires.1.1.1.1.1.1 in
    let h = c.edge_at-e.ensures in
    let f = call_fits a.s a.graph.now a.rules.now c.requires.0 a.start a.head a.tail a.work.now a.g a.q at a.j c.requires.1.1.0 c.requires.1.1.1.0 _ h
    c.if-e-eq0.false a.method c.requires.1.1.1.1.0 in (
      c.requires.0,
      (
        c.requires.1.1.0,
        (
          c.requires.1.1.1.0,
          (
            f.1.1.0,
            (
              sym (label_is a.s a.graph.now a.rules.now c.requires.0 a.j c.requires.1.1.0 _ h),
              (
                sym (to_is a.s a.graph.now a.rules.now c.requires.0 a.j c.requires.1.1.0 _ h),
                (
                  ends_are a.s a.graph.now a.rules.now c.requires.0 a.start a.head a.tail a.work.now a.g a.q at a.j c.requires.1.1.0 c.requires.1.1.1.0 _ h
                      c.if-e-eq0.false a.method c.requires.1.1.1.1.0 a.table.now c.requires.1.0
                      c.step-p.result c.step_set-ends.result c.step-p.ensures
                      c.step_set-ends.ensures,
                  (
                    at,
                    may_same (decode_graph a.graph.now) (watch (decode_rules a.rules.now)) a.start a.head
                        (passed_at (decode_graph a.graph.now) (watch (decode_rules a.rules.now)) (place a.g a.q) a.j)
                        (passed_recs (decode_graph a.graph.now) (watch (decode_rules a.rules.now)) (place a.g a.q) a.j (span 0 8)) a.tail a.work.now
                        (passed_list a.s a.graph.now a.rules.now c.requires.0 a.start a.head a.tail a.work.now a.g a.q at a.j c.requires.1.1.0 c.requires.1.1.1.0 _ h
                        c.if-e-eq0.false) may,
                  ),
                ),
              ),
            ),
          ),
        ),
      ),
    )
