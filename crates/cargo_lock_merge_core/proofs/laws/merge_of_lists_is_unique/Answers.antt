use Rattle.cargo_lock_merge_core.proofs.Listings.{one-merge-of-lists}
use Rattle.cargo_lock_merge_core.proofs.laws.merge_of_lists_is_unique.Goals as goal

pub returns : goal.returns
returns c = one-merge-of-lists
