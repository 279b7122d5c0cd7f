use Rattle.std.proofs.Common.{◌-◌, arith, drop, length-drop}
use Rattle.cargo_lock_audit.proofs.Ordered.{ordered-one}
use Rattle.cargo_lock_audit.proofs.database.first_twice.Goals as goal

pub returns : goal.returns
returns c =
    c.loop-place.invariant (ordered-one (drop (c.loop-place.place - 1) c.args.files.now)
    (omega (arith, length-drop (c.loop-place.place - 1) c.args.files.now)))
