use Rattle.cargo_lock_merge_core.proofs.Listings.{one-moved}
use Rattle.cargo_lock_merge_core.proofs.laws.listings_have_one_moved.Goals as goal

pub returns : goal.returns
returns c = one-moved
