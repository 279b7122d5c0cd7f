use Rattle.cargo_lock_parts.proofs.RankLemmas.{no_rank_is_no_match}
use Rattle.cargo_lock_parts.proofs.laws.no_rank_is_no_match.Goals as goal

pub returns : goal.returns
returns c = no_rank_is_no_match
