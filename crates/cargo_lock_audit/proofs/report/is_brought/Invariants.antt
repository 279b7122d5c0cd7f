use Rattle.std.proofs.Common.{◌≡◌, drop}
use Rattle.cargo_lock_audit.specs.Findings.{is_brought}
use Rattle.cargo_lock_audit.proofs.report.is_brought.Given as goal

-- what the other packages tell
abbrev pub invariant-loop-package : goal.invariant-loop-package
invariant-loop-package l =
    is_brought l.registries (drop l.package-index l.packages) l.advisory ≡ is_brought l.registries l.packages l.advisory
