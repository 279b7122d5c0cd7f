use Rattle.std.proofs.Common.{refl, arith}
use Rattle.inflate.specs.Checksum.{past_zeros}
use Rattle.inflate.proofs.Remainders.{zero_taken, zero_left}
use Rattle.inflate.proofs.checksum.past_byte.Goals as goal
use Rattle.inflate.proofs.checksum.past_byte.Goals.{then-is_taken, else-is_taken}

pub loop-init : goal.loop-init
unfolding past_zeros
loop-init c = refl

pub loop-preserved : goal.loop-preserved
loop-preserved c =
    elim c.if-is_taken.branch [
      | then-is_taken w ↦ rw w.left-is (zero_taken c.args.remainder c.loop.left c.loop.counter c.loop.invariant (omega arith))
      | else-is_taken w ↦ rw w.left-is (zero_left c.args.remainder c.loop.left c.loop.counter c.loop.invariant (omega arith))
    ]
