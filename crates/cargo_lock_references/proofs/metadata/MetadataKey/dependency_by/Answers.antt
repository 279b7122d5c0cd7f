use Rattle.std.proofs.Common.{inl, rules}
use Rattle.cargo_lock_references.specs.Metadata.{key_or_refusal}
use Rattle.cargo_lock_references.proofs.metadata.MetadataKey.dependency_by.Goals as goal

pub returns-in_default : goal.returns-in_default
unfolding key_or_refusal
returns-in_default c = inl (search rules)
