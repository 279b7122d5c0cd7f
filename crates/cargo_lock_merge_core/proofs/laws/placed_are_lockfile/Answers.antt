use Rattle.cargo_lock_merge_core.proofs.Soundness.{placed-lockfile}
use Rattle.cargo_lock_merge_core.proofs.laws.placed_are_lockfile.Goals as goal

pub returns : goal.returns
returns c = λ all packages xs one h. placed-lockfile all packages xs one h
