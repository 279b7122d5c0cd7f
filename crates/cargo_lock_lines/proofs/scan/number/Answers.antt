use Rattle.std.proofs.Common.{arith}
use Rattle.std.specs.Fmt.{digits}
use Rattle.cargo_lock_lines.proofs.HeldWords.{Holds-number}
use Rattle.cargo_lock_lines.proofs.scan.number.Goals as goal

pub returns-in-Some : goal.returns-in-Some
unfolding digits
returns-in-Some c = Holds-number 4 c.args.text.now c.in-Some.rest.now (omega arith) c.in-Some.ensures

pub returns-in-Some-after : goal.returns-in-Some-after
unfolding digits
returns-in-Some-after c = Holds-number 3 c.args.text.now c.in-Some-after.rest.now (omega arith) c.in-Some-after.ensures
