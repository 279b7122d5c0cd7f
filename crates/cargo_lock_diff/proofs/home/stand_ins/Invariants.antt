use Rattle.std.proofs.Common.{take}
use Rattle.std.specs.List.{AllZip}
use Rattle.cargo_lock_diff.specs.Difference.{referred_packages}
use Rattle.cargo_lock_diff.specs.StandIn.{StandsFor}
use Rattle.cargo_lock_diff.proofs.home.stand_ins.Given as goal

abbrev pub invariant-loop-package : goal.invariant-loop-package
invariant-loop-package l = AllZip StandsFor (referred_packages (take l.package-index l.package-items)) l.all.items
