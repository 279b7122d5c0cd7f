use Rattle.cargo_lock_merge_core.proofs.Listings.{listings-flip}
use Rattle.cargo_lock_merge_core.proofs.laws.listings_are_symmetric.Goals as goal

pub returns : goal.returns
returns c = listings-flip
