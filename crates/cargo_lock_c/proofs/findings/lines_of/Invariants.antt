use Rattle.std.proofs.Common.{◌≡◌, map, take, string_bytes}
use Rattle.cargo_lock_check.specs.Finding.{lockfile_finding_of, lockfile_findings_text}
use Rattle.cargo_lock_c.proofs.findings.lines_of.Given as goal

abbrev pub invariant-loop-finding : goal.invariant-loop-finding
invariant-loop-finding l = string_bytes l.lines ≡ lockfile_findings_text (map lockfile_finding_of (take l.finding-index l.findings))
