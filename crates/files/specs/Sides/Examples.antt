-- The sides of P10 and P11: their graphs are of their interface, and what is required is provided.
use Rattle.std.specs.Prelude.{◌≡◌, refl, false}
use Rattle.std.proofs.Math.Option.{none}
use Rattle.files.specs.Course.{one_one, call_file, returning_file}
use Rattle.files.specs.Sides.{first_foreign, lacks, unprovided}

pub call_of : first_foreign one_one call_file ≡ none
unfolding first_foreign
call_of = refl

pub returning_of : first_foreign one_one returning_file ≡ none
unfolding first_foreign
returning_of = refl

pub one_one_provided : unprovided one_one 1 ≡ false
unfolding unprovided lacks
one_one_provided = refl
