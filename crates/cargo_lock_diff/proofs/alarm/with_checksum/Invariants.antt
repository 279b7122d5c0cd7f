use Rattle.std.proofs.Common.{◌≡◌, take}
use Rattle.std.specs.List.{filter}
use Rattle.cargo_lock_diff.specs.Alarm.{is_checksummed}
use Rattle.cargo_lock_diff.specs.Difference.{referred_packages}
use Rattle.cargo_lock_diff.proofs.alarm.with_checksum.Given as goal

abbrev pub invariant-loop-package : goal.invariant-loop-package
invariant-loop-package l = referred_packages l.all.items ≡ filter is_checksummed (referred_packages (take l.package-index l.package-items))
