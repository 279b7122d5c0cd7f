use Rattle.cargo_lock_parts.proofs.RankLemmas.{rank_of-symm}
use Rattle.cargo_lock_parts.proofs.laws.rank_is_symmetric.Goals as goal

pub returns : goal.returns
returns c = rank_of-symm
