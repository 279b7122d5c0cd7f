use Rattle.cargo_lock_parts.proofs.EqualityLemmas.{equal_sources}
use Rattle.cargo_lock_parts.proofs.laws.sources_are_equal_by_keys.Goals as goal

pub returns : goal.returns
returns c = equal_sources
