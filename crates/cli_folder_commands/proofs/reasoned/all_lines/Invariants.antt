use Rattle.std.proofs.Common.{map, string_bytes, take}
use Rattle.cargo_lock_audit.specs.Findings.{advisory_finding_of}
use Rattle.cli_folder_commands.specs.Reasoned.{IsReasonedText}
use Rattle.cli_folder_commands.proofs.reasoned.all_lines.Given as goal

-- the lines of the findings so far
abbrev pub invariant-loop-finding : goal.invariant-loop-finding
invariant-loop-finding l = IsReasonedText l.packages l.graph
    (map advisory_finding_of (take l.finding-index l.findings)) (string_bytes l.lines)
