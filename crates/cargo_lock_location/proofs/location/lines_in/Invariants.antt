use Rattle.std.proofs.Common.{◌≡◌}
use Rattle.cargo_lock_location.proofs.location.lines_in.Given as goal

-- the lines so far
abbrev pub invariant-loop-line : goal.invariant-loop-line
invariant-loop-line l = l.all.items ≡ l.yielded
