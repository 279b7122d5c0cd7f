-- The reference that is written for a dependency: in V1 in full, and from V2 on without the parts
-- that are redundant among the packages of the lockfile.
-- The rule is that of `EncodableDependency::from_dependency` and `v2` in `src/lockfile/encoding.rs`
-- of the Rust crate `cargo-lock` 11.0.1; V2 is the pull request 7070 of rust-lang/cargo.
use Rattle.std.specs.Prelude.{◌≡◌, ◌⊎◌, ◌&&◌, ◌==◌, Bool, true, false, if◌then◌else◌, ℕ, List}
use Rattle.std.specs.Prelude.{Option, Some, None, option_map, slice_get, count_by}
use Rattle.semver.specs.Parse.{Parts}
use Rattle.cargo_lock_parts.specs.Identity.{Identity}
use Rattle.cargo_lock_parts.specs.Source.{Source, MarkedSource, is_path}
use Rattle.cargo_lock_references.specs.declared.version.ResolveVersion.{ResolveVersion}
use Rattle.cargo_lock_references.specs.declared.version.ResolveVersion.TheVariants.{V1, V2, V3, V4}
use Rattle.cargo_lock_references.specs.Reference.{Reference, one_word}
use Rattle.cargo_lock_references.specs.ResolutionSearch.{same_text, same_parts}

-- ---- by places

-- one place of the list passes, and every place that passes is that place
abbrev pub IsUnique : (Identity → Type 0) → List Identity → Type 0
IsUnique P list = (k : ℕ) × (x : Identity) × (slice_get list k ≡ Some x) × P x
    × ((j : ℕ) (y : Identity) → slice_get list j ≡ Some y → P y → j ≡ k)

-- the identity has the name
abbrev pub HasName : List ℕ → Identity → Type 0
HasName name i = i.name ≡ name

-- the identity has the name and the version
abbrev pub IsOfNameAndVersion : List ℕ → Parts → Identity → Type 0
IsOfNameAndVersion name version i = (i.name ≡ name) × (i.version ≡ version)

-- the source, unless it is a path, which is not written
abbrev pub unless_path : Bool → Source → Option Source
unless_path path s = if path then None else Some s

-- a source that is written: none for a path
abbrev pub source_unless_path : Option Source → Option Source
source_unless_path None = None
source_unless_path (Some s) = unless_path (is_path s.kind) s

-- a source with its mark
abbrev pub mark : Bool → Source → MarkedSource
mark escaped s = record { source = s; escaped = escaped }

-- a source as it is written
abbrev pub written_source : Bool → Option Source → Option MarkedSource
written_source escaped s = option_map (mark escaped) (source_unless_path s)

-- name, version and the source, unless that is absent or a path
abbrev pub in_full : Bool → Identity → Reference
in_full escaped d =
    record { name = d.name; version = Some d.version; source = written_source escaped d.source }

-- the reference without its source
abbrev pub without_source : Reference → Reference
without_source f = record { name = f.name; version = f.version; source = None }

-- one place has the reference's name
abbrev pub HasUniqueName : List Identity → Reference → Type 0
HasUniqueName list f = IsUnique (HasName f.name) list

-- the reference has a version, and one place has its name and its version
abbrev pub HasUniqueVersion : List Identity → Reference → Type 0
HasUniqueVersion list f = (v : Parts) × (f.version ≡ Some v)
    × IsUnique (IsOfNameAndVersion f.name v) list

-- The reference, shortened: its name alone if exactly one place has it; otherwise its name and
-- version if exactly one place has both; otherwise the reference unchanged.
abbrev pub ShortensTo : List Identity → Reference → Reference → Type 0
ShortensTo list f g =
    (HasUniqueName list f × (g ≡ one_word f.name))
    ⊎ (¬ HasUniqueName list f × HasUniqueVersion list f × (g ≡ without_source f))
    ⊎ (¬ HasUniqueName list f × ¬ HasUniqueVersion list f × (g ≡ f))

-- ---- computed

-- the identity has the name
abbrev pub has_name : List ℕ → Identity → Bool
has_name name i = same_text i.name name

-- the identity has the name and the version
abbrev pub has_name_and_version : List ℕ → Parts → Identity → Bool
has_name_and_version name version i = same_text i.name name && same_parts i.version version

-- exactly one item passes
abbrev pub exactly_one : (Identity → Bool) → List Identity → Bool
exactly_one p list = count_by p list == 1

-- the version is written, and exactly one identity has it and the name
abbrev pub is_version_unique : List Identity → List ℕ → Option Parts → Bool
is_version_unique list name None = false
is_version_unique list name (Some v) = exactly_one (has_name_and_version name v) list

-- the reference without the words that the identities make needless
unfoldable pub shorten : List Identity → Reference → Reference
shorten list f =
    if exactly_one (has_name f.name) list then one_word f.name
    else (if is_version_unique list f.name f.version then without_source f else f)

-- the reference that is written for a dependency in this format, among these packages
unfoldable pub written_reference : ResolveVersion → List Identity → Identity → Reference
written_reference V1 list d = in_full false d
written_reference V2 list d = shorten list (in_full false d)
written_reference V3 list d = shorten list (in_full false d)
written_reference V4 list d = shorten list (in_full true d)

-- a reference is shortened by the places that have its name and its version
abbrev pub ShortenedByPlaces : Type 0
ShortenedByPlaces = (list : List Identity) (f : Reference) → ShortensTo list f (shorten list f)

-- what is shortened stays unchanged
abbrev pub ShortenedTwice : Type 0
ShortenedTwice = (list : List Identity) (f : Reference) → shorten list (shorten list f)
    ≡ shorten list f
