use Rattle.cargo_lock_merge_core.proofs.Listings.{one-conflict}
use Rattle.cargo_lock_merge_core.proofs.laws.listings_have_one_conflict.Goals as goal

pub returns : goal.returns
returns c = one-conflict
