-- The order of dependencies and of packages: field by field, sources by their keys, and an absent
-- value before a present one. What ties is equal.
-- Versions are in the order of SemVer 2.0.0, section 11, and then by build metadata, as the crate
-- `semver` orders them.
use Rattle.std.specs.Prelude.{ℕ, Bool, List, ◌++◌, Option}
use Rattle.std.specs.Option.{option_cmp}
use Rattle.std.specs.declared.cmp.Ordering.{Ordering}
use Rattle.std.specs.Ordering.{nat_cmp, on, then_cmp, eq_by_cmp}
use Rattle.std.specs.Cmp.Lexicographic.{pointwise, slice_cmp}
use Rattle.std.specs.Hash.{HashWrites}
use Rattle.std.specs.Hash as fed
use Rattle.semver.specs.Order.{build_cmp, pre_cmp}
use Rattle.semver.specs.Parse.{Parts}
use Rattle.cargo_lock_parts.specs.Source.{Source}
use Rattle.cargo_lock_parts.specs.SourceKey.{key_of, key_hash, source_cmp, text_cmp}
use Rattle.cargo_lock_parts.specs.Identity.{Identity, PackageData, identity_of}

-- versions compare as `semver` orders them, build metadata last
abbrev pub version_cmp : Parts → Parts → Ordering
version_cmp =
    then_cmp (on (λ v. v.0) nat_cmp)
    (then_cmp (on (λ v. v.1) nat_cmp) (then_cmp (on (λ v. v.2) nat_cmp)
    (then_cmp (on (λ v. v.3) pre_cmp) (on (λ v. v.4) build_cmp))))

-- The order of what has a name, a version and a source: by name, then by version, then by source,
-- an absent source before a present one. It takes the functions that give the three, the order of
-- versions and the order of sources.
abbrev pub by_name_version_source : {X V S : Type 0} → (X → List ℕ) → (X → V) → (X → Option S)
    → (V → V → Ordering) → (S → S → Ordering) → X → X → Ordering
by_name_version_source name version source version_order source_order = then_cmp (then_cmp
    (on name text_cmp)
    (on version version_order))
    (on source (option_cmp source_order))

-- identities compare by name, version and source; an absent source is before a present one
abbrev pub identity_cmp : Identity → Identity → Ordering
identity_cmp = by_name_version_source (λ d. d.name) (λ d. d.version) (λ d. d.source)
    version_cmp source_cmp

-- packages compare by identity, then by checksum, dependencies and replacement
abbrev pub package_cmp : PackageData → PackageData → Ordering
package_cmp = then_cmp (then_cmp (then_cmp
    (on identity_of identity_cmp)
    (on (λ p. p.checksum) (option_cmp text_cmp)))
    (on (λ p. p.dependencies) (slice_cmp identity_cmp)))
    (on (λ p. p.replace) (option_cmp identity_cmp))

-- identities that tie
abbrev pub is_same_identity : Identity → Identity → Bool
is_same_identity = eq_by_cmp identity_cmp

-- packages that tie
abbrev pub is_same_package : PackageData → PackageData → Bool
is_same_package = eq_by_cmp package_cmp

-- lists of unused patches are equal place by place
abbrev pub is_same_patch : List Identity → List Identity → Bool
is_same_patch = pointwise is_same_identity

-- ---- what a hasher is fed

-- what a hasher is fed of a version
abbrev pub version_hash : Parts → HashWrites
version_hash v = fed.u64 v.0 ++ (fed.u64 v.1 ++ (fed.u64 v.2 ++ (fed.str v.3 ++ fed.str v.4)))

-- what a hasher is fed of a source
abbrev pub source_hash : Source → HashWrites
source_hash s = key_hash (key_of s)

-- what a hasher is fed of an identity: its name, its version and its source
abbrev pub identity_hash : Identity → HashWrites
identity_hash d = fed.str d.name ++ version_hash d.version ++ fed.option source_hash d.source

-- what a hasher is fed of a package: its identity and its dependencies. The replacement and the
-- checksum follow from the rest in most lockfiles, and are not hashed.
abbrev pub package_hash : PackageData → HashWrites
package_hash p = identity_hash (identity_of p) ++ fed.slice identity_hash p.dependencies
