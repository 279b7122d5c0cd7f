use Rattle.cargo_lock_table_flaws.proofs.References.{no_report_of_lockfile}
use Rattle.cargo_lock_table_flaws.proofs.laws.no_report_of_a_lockfile.Goals as goal

pub returns : goal.returns
returns c = no_report_of_lockfile
