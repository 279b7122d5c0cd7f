-- What an advisory says, and which packages it concerns.
use Rattle.std.specs.Prelude.{◌≡◌, ◌⊎◌, ◌↔◌, ◌&&◌, ◌||◌, ℕ, Bool, false, true, List, Option, None}
use Rattle.std.specs.Prelude.{Some}
use Rattle.std.specs.Prelude.{bytes_eq, codes, not}
use Rattle.std.specs.List.{Contains, list_any}
use Rattle.semver.specs.Parse.{Parts}
use Rattle.cargo_lock_parts.specs.Identity.{PackageData}
use Rattle.cargo_lock_parts.specs.Source.{Source}
use Rattle.cargo_lock_order.specs.Canonical.{is_canonically_crates_io}
use Rattle.cargo_lock_order.specs.Order.{is_canonically_same}
use Rattle.cargo_lock_audit.specs.Details.{DetailsData}
use Rattle.cargo_lock_audit.specs.Texts.{is_listed}
use Rattle.cargo_lock_audit.specs.Requirement.{BoundData, RequirementData, lies_in, meets}

-- an advisory: its id, its ids in other databases, the name of its package, its title; its kind if it
-- is no vulnerability; the source and the collection of its package, if they are said; whether it was
-- withdrawn; which versions are patched, or were never affected; and what its file says besides
pub record AdvisoryData : Type 0 where
  pub id : List ℕ
  pub aliases : List (List ℕ)
  pub name : List ℕ
  pub title : List ℕ
  pub informational : Option (List ℕ)
  pub source : Option Source
  pub collection : Option (List ℕ)
  pub is_withdrawn : Bool
  pub patched : List RequirementData
  pub unaffected : List RequirementData
  pub details : DetailsData

-- the text is the id of the advisory or one of its aliases
abbrev pub is_name_of : AdvisoryData → List ℕ → Bool
is_name_of a text = bytes_eq a.id text || is_listed a.aliases text

-- the source is crates.io for Cargo, however it is spelt
abbrev pub comes_from_crates_io : Option Source → Bool
comes_from_crates_io None = false
comes_from_crates_io (Some s) = is_canonically_crates_io s

-- Cargo takes the source for one of these
abbrev pub is_of_registry_among : List Source → Source → Bool
is_of_registry_among sources s = list_any (is_canonically_same s) sources

-- packages of the source count as those of crates.io: Cargo takes it for crates.io or for one of
-- these registries, however it is spelt
abbrev pub counts_as_crates_io : List Source → Option Source → Bool
counts_as_crates_io registries None = false
counts_as_crates_io registries (Some s) =
    is_canonically_crates_io s || is_of_registry_among registries s

-- the source is crates.io for Cargo, or none is named
abbrev pub is_of_source : Option Source → Bool
is_of_source None = true
is_of_source (Some s) = is_canonically_crates_io s

-- the collection is that of crates, or none is named
abbrev pub is_of_collection : Option (List ℕ) → Bool
is_of_collection None = true
is_of_collection (Some c) = bytes_eq c (codes "crates")

-- the advisory is about a crate of crates.io
abbrev pub is_about_crates : AdvisoryData → Bool
is_about_crates a = is_of_collection a.collection && is_of_source a.source

-- the version lies in none of the requirements of the advisory
abbrev pub affects : AdvisoryData → Parts → Bool
affects a v = not (list_any (lies_in v) a.patched) && not (list_any (lies_in v) a.unaffected)

-- the advisory is about a crate of the package's name, was not withdrawn, and affects its version
abbrev pub affects_package : AdvisoryData → PackageData → Bool
affects_package a p = bytes_eq a.name p.name && (not a.is_withdrawn && affects a p.version)

-- the advisory concerns the package, where the packages of these registries count as those of
-- crates.io
abbrev pub concerns : List Source → AdvisoryData → PackageData → Bool
concerns registries a p =
    affects_package a p && (is_about_crates a && counts_as_crates_io registries p.source)

-- ---- the same as relations

-- the text is the id of the advisory or one of its aliases
abbrev pub IsNameOf : AdvisoryData → List ℕ → Type 0
IsNameOf a text = (a.id ≡ text) ⊎ Contains a.aliases text

-- the version meets each bound of the requirement
abbrev pub LiesIn : Parts → RequirementData → Type 0
LiesIn v r = (b : BoundData) → Contains r.bounds b → meets v b ≡ true

-- the package counts as one of crates.io, and the advisory is about it: it has the name, it names
-- no other source and no other collection, it was not withdrawn, and the version lies in no
-- requirement
pub record Concerns (registries : List Source) (a : AdvisoryData) (p : PackageData) : Type 0 where
  pub registry : counts_as_crates_io registries p.source ≡ true
  pub name : a.name ≡ p.name
  pub source : (a.source ≡ None) ⊎ (comes_from_crates_io a.source ≡ true)
  pub collection : (a.collection ≡ None) ⊎ (a.collection ≡ Some (codes "crates"))
  pub not_withdrawn : a.is_withdrawn ≡ false
  pub not_patched : (r : RequirementData) → Contains a.patched r → ¬ LiesIn p.version r
  pub affected : (r : RequirementData) → Contains a.unaffected r → ¬ LiesIn p.version r

-- an advisory concerns a package exactly by that
abbrev pub ConcernIsExact : Type 0
ConcernIsExact = (registries : List Source) (a : AdvisoryData) (p : PackageData)
    → (concerns registries a p ≡ true) ↔ Concerns registries a p
