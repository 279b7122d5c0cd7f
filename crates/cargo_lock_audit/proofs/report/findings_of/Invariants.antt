use Rattle.std.proofs.Common.{◌≡◌, map, option_copied, take}
use Rattle.cargo_lock_audit.specs.Findings.{advisory_finding_of, findings_of}
use Rattle.cargo_lock_audit.specs.Pairs.{advisory_pair_of}
use Rattle.cargo_lock_audit.specs.Settings.{settings_of}
use Rattle.cargo_lock_audit.proofs.report.findings_of.Given as goal

-- what is found of the pairs so far
abbrev pub invariant-loop-pair : goal.invariant-loop-pair
invariant-loop-pair l = map advisory_finding_of l.found.items
    ≡ findings_of (settings_of l.settings) (option_copied l.older) (map advisory_pair_of (take l.pair-index l.pairs))
