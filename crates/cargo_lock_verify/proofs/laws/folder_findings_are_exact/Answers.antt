use Rattle.cargo_lock_verify.proofs.ExactFolders.{folder-findings-are-exact}
use Rattle.cargo_lock_verify.proofs.laws.folder_findings_are_exact.Goals as goal

pub returns : goal.returns
returns c = folder-findings-are-exact
