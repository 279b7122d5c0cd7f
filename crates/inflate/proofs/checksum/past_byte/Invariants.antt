use Rattle.std.proofs.Common.{◌≡◌}
use Rattle.inflate.specs.Checksum.{past_zeros}
use Rattle.inflate.proofs.checksum.past_byte.Given as goal

abbrev pub invariant-loop : goal.invariant-loop
invariant-loop l = l.left ≡ past_zeros l.remainder l.counter
