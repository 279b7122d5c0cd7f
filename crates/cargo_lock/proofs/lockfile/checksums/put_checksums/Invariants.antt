use Rattle.std.proofs.Common.{◌≡◌, ◌++◌, drop, take}
use Rattle.cargo_lock_references.specs.Records.{texts_of}
use Rattle.cargo_lock.specs.CargoChecksums.{with_cargo_checksums}
use Rattle.cargo_lock.proofs.lockfile.checksums.put_checksums.Given as goal

abbrev pub invariant-loop-package : goal.invariant-loop-package
invariant-loop-package l =
    l.packages ≡ with_cargo_checksums l.version (texts_of l.metadata.entries) (take l.package-index l.fn.packages) ++ drop l.package-index l.fn.packages
