use Rattle.cargo_lock_merge_core.proofs.Listings.{one-merge}
use Rattle.cargo_lock_merge_core.proofs.laws.listings_have_one_merge.Goals as goal

pub returns : goal.returns
returns c = one-merge
