use Rattle.cargo_lock_query.proofs.Digests.{other_length}
use Rattle.cargo_lock_query.proofs.spec.is_digest.Goals as goal

pub returns-else-text-eq64 : goal.returns-else-text-eq64
returns-else-text-eq64 c = other_length c.args.digest.now c.args.text.now c.told-digest c.if-text-eq64.false
