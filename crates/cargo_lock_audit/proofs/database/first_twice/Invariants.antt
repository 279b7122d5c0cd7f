use Rattle.std.proofs.Common.{◌-◌, drop}
use Rattle.cargo_lock_audit.specs.Database.{AreInOrderOfIds, advisories_of}
use Rattle.cargo_lock_audit.proofs.database.first_twice.Given as goal

-- if the files from that before the place on are in order, all are
abbrev pub invariant-loop-place : goal.invariant-loop-place
invariant-loop-place l = AreInOrderOfIds (advisories_of (drop (l.place - 1) l.files)) → AreInOrderOfIds (advisories_of l.files)
