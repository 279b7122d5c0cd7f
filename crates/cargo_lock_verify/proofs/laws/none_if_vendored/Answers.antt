use Rattle.cargo_lock_verify.proofs.ExactFolders.{none-if-vendored}
use Rattle.cargo_lock_verify.proofs.laws.none_if_vendored.Goals as goal

pub returns : goal.returns
returns c = none-if-vendored
