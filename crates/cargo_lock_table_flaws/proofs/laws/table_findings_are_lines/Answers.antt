use Rattle.cargo_lock_table_flaws.proofs.OneLine.{each-table-finding-is-one-line}
use Rattle.cargo_lock_table_flaws.proofs.laws.table_findings_are_lines.Goals as goal

pub returns : goal.returns
returns c = each-table-finding-is-one-line
