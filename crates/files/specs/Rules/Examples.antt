-- The monitor of the course examples, computed.
use Rattle.std.specs.Prelude.{◌≡◌, refl}
use Rattle.files.specs.Rules.{Monitor, watch}
use Rattle.files.specs.Course.{return_rules, return_monitor}

pub return_watch : ◌≡◌ {A = Monitor} (watch return_rules) return_monitor
unfolding watch
return_watch = refl
