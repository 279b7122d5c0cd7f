use Rattle.cargo_lock_merge_core.proofs.Unmoved.{both-identity}
use Rattle.cargo_lock_merge_core.proofs.laws.identity_of_both_stays.Goals as goal

pub returns : goal.returns
returns c = λ s m p y z one h reached ay az same. both-identity s m p y z one h reached ay az same
