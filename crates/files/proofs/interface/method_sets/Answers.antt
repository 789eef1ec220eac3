use native.Mathlib.Omega.{arith}
use Rattle.files.specs.Access.Laws.{interface_count, reads_interface}
use Rattle.files.proofs.interface.method_sets.Goals as goal

pub read-r-requires : goal.read-r-requires
read-r-requires c = omega (arith, interface_count c.args.interface.now c.requires)

pub returns : goal.returns
returns c = reads_interface c.args.interface.now c.requires c.read-r.result c.read-r.ensures
