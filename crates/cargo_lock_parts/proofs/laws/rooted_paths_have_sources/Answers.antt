use Rattle.cargo_lock_parts.proofs.FileUrlRead.{rooted_paths_have_sources}
use Rattle.cargo_lock_parts.proofs.laws.rooted_paths_have_sources.Goals as goal

pub returns : goal.returns
returns c = rooted_paths_have_sources
