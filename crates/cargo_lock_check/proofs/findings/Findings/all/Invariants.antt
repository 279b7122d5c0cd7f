use Rattle.std.proofs.Common.{◌≡◌, map, take}
use Rattle.cargo_lock_check.specs.Finding.{lockfile_finding_of}
use Rattle.cargo_lock_check.specs.Findings.{placed_finding_of}
use Rattle.cargo_lock_check.proofs.findings.Findings.all.Given as goal

-- the findings so far
abbrev pub invariant-loop-one : goal.invariant-loop-one
invariant-loop-one l = map lockfile_finding_of l.all.items ≡ map (λ x. x.finding) (map placed_finding_of (take l.one-index l.one-items))
