use Rattle.std.proofs.Common.{◌≡◌, ◌++◌, string_bytes}
use Rattle.std.specs.List.{flat_map}
use Rattle.cargo_lock_encoding.specs.Text.{escape_char}
use Rattle.cargo_lock_encoding.proofs.text.put_each_char.Given as goal

abbrev pub invariant-loop-c : goal.invariant-loop-c
invariant-loop-c l = string_bytes l.out ≡ string_bytes l.fn.out ++ flat_map escape_char l.yielded
