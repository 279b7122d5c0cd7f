use Rattle.cargo_lock_flaws.specs.Seen.{AreChecked}
use Rattle.cargo_lock_flaws.proofs.packages.checked_sources.Given as goal

abbrev pub invariant-loop-package : goal.invariant-loop-package
invariant-loop-package l = AreChecked l.packages l.package-index l.sources
