use Rattle.cargo_lock_parts.proofs.RankLemmas.{rank_one_is_equal_keys}
use Rattle.cargo_lock_parts.proofs.laws.rank_one_is_equal_keys.Goals as goal

pub returns : goal.returns
returns c = rank_one_is_equal_keys
