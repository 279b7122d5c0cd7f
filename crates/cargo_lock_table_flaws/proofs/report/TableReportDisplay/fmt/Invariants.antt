use Rattle.std.proofs.Common.{map, take}
use Rattle.std.specs.Fmt.{HasWritten, IsPlainFormatter}
use Rattle.cargo_lock_table_flaws.specs.Finding.{table_finding_of, table_findings_text}
use Rattle.cargo_lock_table_flaws.proofs.report.TableReportDisplay.fmt.Given as goal

abbrev pub invariant-loop-finding : goal.invariant-loop-finding
invariant-loop-finding g l = IsPlainFormatter l.initial.f → HasWritten g.W.Write.write_str_gives l.initial.f
    (table_findings_text (map table_finding_of (take l.finding-index l.findings))) l.f
