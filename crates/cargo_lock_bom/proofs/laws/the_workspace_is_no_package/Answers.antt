use Rattle.cargo_lock_bom.proofs.Ats.{workspace-apart}
use Rattle.cargo_lock_bom.proofs.laws.the_workspace_is_no_package.Goals as goal

pub returns : goal.returns
returns c = workspace-apart
