-- The lengths of buffers, which src/stdout.rt and src/input.rt have as constants too.
use Rattle.std.specs.Prelude.{ℕ}

-- bytes of standard output
abbrev pub text_room : ℕ
text_room = 65536

-- bytes of an argument, or of a path that the system takes
abbrev pub argument_room : ℕ
argument_room = 4096

-- bytes of a file or of a result
abbrev pub large_room : ℕ
large_room = 65536
