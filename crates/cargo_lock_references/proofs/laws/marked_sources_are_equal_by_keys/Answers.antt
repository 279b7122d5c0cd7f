use Rattle.cargo_lock_parts.specs.SourceLaws.{is_same_source-Decides}
use Rattle.cargo_lock_references.proofs.laws.marked_sources_are_equal_by_keys.Goals as goal

pub returns : goal.returns
returns c = λ a b. is_same_source-Decides a.source b.source
