use Rattle.cargo_lock_table_flaws.proofs.References.{lockfile_if_resolved}
use Rattle.cargo_lock_table_flaws.proofs.laws.values_mean_where_references_resolve.Goals as goal

pub returns : goal.returns
returns c = lockfile_if_resolved
