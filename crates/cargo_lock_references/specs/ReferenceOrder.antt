-- The order of references: name, version, source by its key, and an absent value before a present
-- one. Equality is exactly equality of keys.
use Rattle.std.specs.Prelude.{Bool, ◌++◌, option_map}
use Rattle.std.specs.Option.{option_cmp}
use Rattle.std.specs.declared.cmp.Ordering.{Ordering}
use Rattle.std.specs.Ordering.{on, eq_by_cmp}
use Rattle.std.specs.Hash.{HashWrites}
use Rattle.std.specs.Hash as fed
use Rattle.cargo_lock_parts.specs.Equality.{IsEqualityOfKeys}
use Rattle.cargo_lock_parts.specs.IdentityOrder.{by_name_version_source, source_hash}
use Rattle.cargo_lock_parts.specs.IdentityOrder.{version_cmp}
use Rattle.cargo_lock_parts.specs.PartialIdentity.{PartialKey}
use Rattle.cargo_lock_parts.specs.Source.{MarkedSource}
use Rattle.cargo_lock_parts.specs.SourceKey.{Key, key_of, source_cmp}
use Rattle.cargo_lock_references.specs.Reference.{Reference}

-- a source compares by its key alone, whatever its mark
abbrev pub marked_cmp : MarkedSource → MarkedSource → Ordering
marked_cmp = on (λ m. m.source) source_cmp

-- marked sources that tie: the mark is ignored
abbrev pub is_same_marked : MarkedSource → MarkedSource → Bool
is_same_marked = eq_by_cmp marked_cmp

-- what a hasher is fed of a marked source: the source alone
abbrev pub marked_hash : MarkedSource → HashWrites
marked_hash m = source_hash m.source

-- references compare by name, version and source
abbrev pub reference_cmp : Reference → Reference → Ordering
reference_cmp = by_name_version_source (λ f. f.name) (λ f. f.version) (λ f. f.source)
    (option_cmp version_cmp) marked_cmp

-- references that tie
abbrev pub is_same_reference : Reference → Reference → Bool
is_same_reference = eq_by_cmp reference_cmp

-- the version follows from the name in most lockfiles, and is not hashed
abbrev pub reference_hash : Reference → HashWrites
reference_hash f = fed.str f.name ++ fed.option marked_hash f.source

-- ---- keys

-- the key of a marked source, which is that of the source
abbrev pub marked_key : MarkedSource → Key
marked_key m = key_of m.source

-- what equality of references compares
abbrev pub reference_key : Reference → PartialKey
reference_key f =
    record { name = f.name; version = f.version; source = option_map marked_key f.source }

-- `a == b` of references holds exactly if their keys are the same
abbrev pub EqualReferences : Type 0
EqualReferences = IsEqualityOfKeys is_same_reference reference_key

-- `a == b` of marked sources holds exactly if the keys of the sources are the same
abbrev pub EqualMarkedSources : Type 0
EqualMarkedSources = IsEqualityOfKeys is_same_marked marked_key
