use Rattle.std.specs.Char.{is_whitespace}
use Rattle.std.specs.Str.{NonePass}
use Rattle.cargo_lock_references.proofs.read_back.is_dense.Given as goal

abbrev pub invariant-loop-c : goal.invariant-loop-c
invariant-loop-c l = NonePass is_whitespace l.yielded
