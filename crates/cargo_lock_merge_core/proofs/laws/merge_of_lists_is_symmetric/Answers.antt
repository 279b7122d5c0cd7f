use Rattle.cargo_lock_merge_core.proofs.Listings.{merge-of-lists-flip}
use Rattle.cargo_lock_merge_core.proofs.laws.merge_of_lists_is_symmetric.Goals as goal

pub returns : goal.returns
returns c = merge-of-lists-flip
