use Rattle.cargo_lock_diagram.proofs.Quoting.{dot-read}
use Rattle.cargo_lock_diagram.proofs.laws.dot_label_is_read.Goals as goal

pub returns : goal.returns
returns c = dot-read
