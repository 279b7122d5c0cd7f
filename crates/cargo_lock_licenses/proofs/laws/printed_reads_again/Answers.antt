use Rattle.cargo_lock_licenses.proofs.Printed.{printed-reads-again}
use Rattle.cargo_lock_licenses.proofs.laws.printed_reads_again.Goals as goal

pub returns : goal.returns
returns c = printed-reads-again
