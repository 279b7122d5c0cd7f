use Rattle.std.proofs.Common.{◌≡◌, drop}
use Rattle.cargo_lock_references.specs.Format.{has_checksum}
use Rattle.cargo_lock_references.proofs.version.has_checksum.Given as goal

abbrev pub invariant-loop-encoded : goal.invariant-loop-encoded
invariant-loop-encoded l = has_checksum (drop l.encoded-index l.packages) ≡ has_checksum l.packages
