use Rattle.std.proofs.Common.{map, take}
use Rattle.std.specs.Fmt.{HasWritten, IsPlainFormatter}
use Rattle.cargo_lock_audit.specs.Findings.{advisory_finding_of}
use Rattle.cargo_lock_audit.specs.Lines.{advisory_findings_text}
use Rattle.cli_folder_commands.proofs.part.SureAdvisoriesDisplay.fmt.Given as goal

-- the lines of the findings so far are written
abbrev pub invariant-loop-finding : goal.invariant-loop-finding
invariant-loop-finding g l = IsPlainFormatter l.initial.f → HasWritten g.W.Write.write_str_gives l.initial.f
    (advisory_findings_text (map advisory_finding_of (take l.finding-index l.finding-items))) l.f
