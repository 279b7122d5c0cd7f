use Rattle.cargo_lock_verify.proofs.Classes.{archive-classes-are-exact}
use Rattle.cargo_lock_verify.proofs.laws.archive_classes_are_exact.Goals as goal

pub returns : goal.returns
returns c = archive-classes-are-exact
