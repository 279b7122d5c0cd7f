-- A name and, optionally, a version and a source: the keys by which packages are looked up.
use Rattle.std.specs.Prelude.{◌≡◌, ℕ, Bool, List, Option, Some, None, option_map, refl}
use Rattle.std.specs.Option.{option_cmp}
use Rattle.std.specs.declared.cmp.Ordering.{Ordering}
use Rattle.std.specs.Ordering.{ordering_then, eq_by_cmp}
use Rattle.std.specs.Bool.{Decides}
use Rattle.std.specs.Cmp.{IsTotalOrder}
use Rattle.std.specs.Cmp.Lexicographic.{options_total}
use Rattle.std.specs.FinMap.{IsAntisymmetric}
use Rattle.std.proofs.Common.{ap}
use Rattle.semver.specs.Parse.{Parts}
use Rattle.cargo_lock_parts.specs.IdentityLaws.{version_total, version_cmp-anti, text_cmp-anti}
use Rattle.cargo_lock_parts.specs.IdentityLaws.{key_cmp-anti, option_cmp-anti, option_cmp-by}
use Rattle.cargo_lock_parts.specs.IdentityLaws.{by_keys-Decides, by_name_version_source-total}
use Rattle.cargo_lock_parts.specs.IdentityLaws.{tied-three}
use Rattle.cargo_lock_parts.specs.IdentityOrder.{by_name_version_source, version_cmp}
use Rattle.cargo_lock_parts.specs.Source.{Source}
use Rattle.cargo_lock_parts.specs.SourceKey.{Key, key_cmp, key_of, source_cmp}
use Rattle.cargo_lock_parts.specs.SourceLaws.{key_total, source_total}

-- a name, and perhaps a version and a source
pub record PartialIdentity : Type 0 where
  pub name : List ℕ
  pub version : Option Parts
  pub source : Option Source

-- a name alone
abbrev pub name_alone : List ℕ → PartialIdentity
name_alone name = record { name = name; version = None; source = None }

-- a name and a version
abbrev pub name_and_version : List ℕ → Parts → PartialIdentity
name_and_version name version = record { name = name; version = Some version; source = None }

-- they compare by name, version and source; an absent part is before a present one
abbrev pub partial_identity_cmp : PartialIdentity → PartialIdentity → Ordering
partial_identity_cmp = by_name_version_source (λ i. i.name) (λ i. i.version) (λ i. i.source)
    (option_cmp version_cmp) source_cmp

-- partial identities that tie
abbrev pub is_same_partial_identity : PartialIdentity → PartialIdentity → Bool
is_same_partial_identity = eq_by_cmp partial_identity_cmp

-- the order of partial identities is total
pub partial_identity_total : IsTotalOrder partial_identity_cmp
partial_identity_total = by_name_version_source-total (λ (i : PartialIdentity). i.name)
    (λ (i : PartialIdentity). i.version) (λ (i : PartialIdentity). i.source)
    (options_total version_total) source_total

-- ---- keys

-- what equality of partial identities compares
pub record PartialKey : Type 0 where
  pub name : List ℕ
  pub version : Option Parts
  pub source : Option Key

-- the key of a partial identity
abbrev pub partial_key : PartialIdentity → PartialKey
partial_key i = record { name = i.name; version = i.version; source = option_map key_of i.source }

-- keys compare by name, version and source
unfoldable pub partial_key_cmp : PartialKey → PartialKey → Ordering
partial_key_cmp = by_name_version_source (λ k. k.name) (λ k. k.version) (λ k. k.source)
    (option_cmp version_cmp) key_cmp

-- the order of keys is total
pub partial_key-total : IsTotalOrder partial_key_cmp
unfolding partial_key_cmp
partial_key-total = by_name_version_source-total (λ (k : PartialKey). k.name)
    (λ (k : PartialKey). k.version) (λ (k : PartialKey). k.source)
    (options_total version_total) key_total

-- keys that tie are one
pub partial_key-anti : IsAntisymmetric partial_key_cmp
unfolding partial_key_cmp
partial_key-anti j k e =
    let (names, versions, sources) = tied-three _ _ _ e in
    let name = text_cmp-anti j.name k.name names in
    let version = option_cmp-anti version_cmp-anti j.version k.version versions in
    let source = option_cmp-anti key_cmp-anti j.source k.source sources in
    λ i. record { name = name i; version = version i; source = source i }

-- two are the same exactly where their keys are
pub is_same_partial_identity-Decides : (a b : PartialIdentity)
    → Decides (is_same_partial_identity a b) (partial_key a ≡ partial_key b)
unfolding partial_key_cmp
is_same_partial_identity-Decides = by_keys-Decides partial_identity_cmp partial_key_cmp partial_key
    partial_key-total partial_key-anti
    (λ a b. ap (ordering_then _)
    (option_cmp-by key_of source_cmp key_cmp (λ x y. refl) a.source b.source))
