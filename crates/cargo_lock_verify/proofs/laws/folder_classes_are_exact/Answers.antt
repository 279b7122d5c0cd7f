use Rattle.cargo_lock_verify.proofs.Classes.{folder-classes-are-exact}
use Rattle.cargo_lock_verify.proofs.laws.folder_classes_are_exact.Goals as goal

pub returns : goal.returns
returns c = folder-classes-are-exact
