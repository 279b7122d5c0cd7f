use Rattle.cargo_lock_references.proofs.LeastKeys.{least-of}
use Rattle.cargo_lock_references.proofs.checksums.find_checksum.Goals as goal

pub returns-clause-least : goal.returns-clause-least
returns-clause-least c = least-of _ _ _ c.checksum.result (rw (← c.in_ok-read.ensures) c.checksum.ensures)
