use Rattle.cargo_lock_parts.proofs.RankLemmas.{ranks_imply_last}
use Rattle.cargo_lock_parts.proofs.laws.ranks_imply_last.Goals as goal

pub returns : goal.returns
returns c = ranks_imply_last
