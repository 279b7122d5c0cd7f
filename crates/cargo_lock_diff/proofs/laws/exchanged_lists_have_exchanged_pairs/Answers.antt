use Rattle.cargo_lock_diff.proofs.Exact.{mirrored_in_turn}
use Rattle.cargo_lock_diff.proofs.laws.exchanged_lists_have_exchanged_pairs.Goals as goal

pub returns : goal.returns
returns c = mirrored_in_turn
