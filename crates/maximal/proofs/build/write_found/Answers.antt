use native.Mathlib.Omega.{arith}
use Rattle.maximal.proofs.BuildLaws.{answers_edges, answers_full, answers_model, edges_counted, edges_few}
use Rattle.maximal.proofs.build.write_found.Goals as goal

pub returns-then-limits-edges : goal.returns-then-limits-edges
returns-then-limits-edges c = answers_edges c.args.limits c.args.interface.now c.args.property.now c.requires.0.file c.args.s c.requires.1.0 c.args.out.now c.args.c c.requires.1.1.0 c.arrange.new.work c.arrange.ensures.0 c.count_edges-edges.result c.count_edges-edges.ensures c.whole.result c.if-limits-edges.true c.whole.ensures

pub overflow_add-c : goal.overflow_add-c
overflow_add-c c = omega (arith, edges_few c.arrange.new.work c.args.c c.args.limits.edges c.count_edges-edges.result (omega (arith, c.requires.1.1.0, c.requires.0.few_states)) c.count_edges-edges.ensures, c.requires.1.1.0, c.requires.0.few_states)

pub overflow_mul-c : goal.overflow_mul-c
overflow_mul-c c = omega (arith, edges_few c.arrange.new.work c.args.c c.args.limits.edges c.count_edges-edges.result (omega (arith, c.requires.1.1.0, c.requires.0.few_states)) c.count_edges-edges.ensures, c.requires.1.1.0, c.requires.0.few_states)

pub returns-then-out-c : goal.returns-then-out-c
returns-then-out-c c = answers_full c.args.limits c.args.interface.now c.args.property.now c.requires.0.file c.args.s c.requires.1.0 c.args.out.now c.args.c c.requires.1.1.0 c.arrange.new.work c.arrange.ensures.0 c.count_edges-edges.result c.count_edges-edges.ensures c.if-limits-edges.false c.whole-then-out-c.result c.if-out-c.true c.whole-then-out-c.ensures

pub write_model-requires : goal.write_model-requires
write_model-requires c = let a = c.arrange in (c.requires.0.file, (omega (arith, a.auto.work, c.requires.1.1.1.0), (a.ensures.0, (edges_counted c.args.limits c.args.interface.now c.args.property.now c.requires.0.file c.args.s c.requires.1.0 c.args.out.now c.args.c c.requires.1.1.0 c.arrange.new.work c.arrange.ensures.0 c.count_edges-edges.result c.count_edges-edges.ensures c.if-limits-edges.false, (c.if-out-c.false, a.ensures.1)))))

pub returns : goal.returns
returns c = answers_model c.args.limits c.args.interface.now c.args.property.now c.requires.0.file c.args.s c.requires.1.0 c.args.out.now c.args.c c.requires.1.1.0 c.arrange.new.work c.arrange.ensures.0 c.count_edges-edges.result c.count_edges-edges.ensures c.if-limits-edges.false c.write_model.new.out c.if-out-c.false c.write_model.ensures
