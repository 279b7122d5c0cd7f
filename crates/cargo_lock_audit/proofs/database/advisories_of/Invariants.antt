use Rattle.std.proofs.Common.{◌≡◌}
use Rattle.cargo_lock_audit.specs.Database.{advisories_of}
use Rattle.cargo_lock_audit.proofs.database.advisories_of.Given as goal

-- the advisories of the files so far
abbrev pub invariant-loop-file : goal.invariant-loop-file
invariant-loop-file l = l.advisories.items ≡ advisories_of l.yielded
