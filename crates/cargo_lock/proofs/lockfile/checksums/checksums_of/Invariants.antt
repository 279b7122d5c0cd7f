use Rattle.std.proofs.Common.{◌≡◌, map, option_map, take}
use Rattle.cargo_lock_parts.specs.Checksum.{digest_of}
use Rattle.cargo_lock_references.specs.Records.{texts_of}
use Rattle.cargo_lock.specs.CargoChecksums.{cargo_checksum}
use Rattle.cargo_lock.proofs.lockfile.checksums.checksums_of.Given as goal

abbrev pub invariant-loop-package : goal.invariant-loop-package
invariant-loop-package l =
    map (option_map digest_of) l.all.items ≡ map (cargo_checksum l.version (texts_of l.metadata.entries)) (take l.package-index l.packages)
