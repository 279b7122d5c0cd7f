use Rattle.std.proofs.Common.{◌≡◌, map, take}
use Rattle.cargo_lock_verify.specs.Archives.{archive_finding_of}
use Rattle.cargo_lock_verify.specs.Reporting.{reported_archive}
use Rattle.cargo_lock_verify.proofs.reporting.reported_archives.Given as goal

-- what is reported of the findings so far
abbrev pub invariant-loop-finding : goal.invariant-loop-finding
invariant-loop-finding l = l.reported.items ≡ map (reported_archive l.missing l.path l.lines) (map archive_finding_of (take l.finding-index l.findings))
