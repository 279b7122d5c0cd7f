-- References that name a dependency in every order of the packages, in as few parts as possible.
use Rattle.std.specs.Prelude.{◌≡◌, ◌+◌, ◌<◌, Bool, ℕ, zero, suc, List, Option, Some, None}
use Rattle.std.specs.Prelude.{IsPermutation, codes, filter, map, slice_get}
use Rattle.std.specs.List.{list_any}
use Rattle.toml.specs.Data.{Data, Items, no_items, item, Members, get_member}
use Rattle.cargo_lock_parts.specs.Identity.{Identity, PackageData, identity_key, identity_of}
use Rattle.cargo_lock_references.specs.declared.version.ResolveVersion.{ResolveVersion}
use Rattle.cargo_lock_references.specs.declared.version.ResolveVersion.TheVariants.{V1, V2, V3, V4}
use Rattle.cargo_lock_references.specs.Reference.{Reference, reference_of, reference_text}
use Rattle.cargo_lock_references.specs.ReferenceOrder.{reference_key}
use Rattle.cargo_lock_parts.specs.Optional.{◌>>=◌}
use Rattle.cargo_lock_encoding.specs.Lockfiles.{LockfileData}
use Rattle.cargo_lock_references.specs.ResolutionSearch.{same_text}
use Rattle.cargo_lock_references.specs.ReadBack.{ResolvesToEqual}
use Rattle.cargo_lock_encoding.specs.Survives.{Survives}
use Rattle.cargo_lock_encoding.specs.Table.{table_of}
use Rattle.toml_fields.specs.Fields.{members_in, required_list, text_in}

-- ---- references that name

-- an identity that is equal to this one is in the list
abbrev pub IsAmong : List Identity → Identity → Type 0
IsAmong list d = (k : ℕ) × (i : Identity) × (slice_get list k ≡ Some i)
    × (identity_key i ≡ identity_key d)

-- no two places of the list have equal identities
abbrev pub AreDistinct : List Identity → Type 0
AreDistinct list = (j k : ℕ) (x y : Identity) → slice_get list j ≡ Some x → slice_get list k
    ≡ Some y
    → identity_key x ≡ identity_key y → j ≡ k

-- each identity in the list with the same name and version is equal to this one
abbrev pub HasNoTwin : List Identity → Identity → Type 0
HasNoTwin list d = (k : ℕ) (i : Identity) → slice_get list k ≡ Some i → i.name ≡ d.name → i.version
    ≡ d.version
    → identity_key i ≡ identity_key d

-- the reference resolves to this dependency in every order of the list
abbrev pub Names : Reference → List Identity → Identity → Type 0
Names f list d = (order : List Identity) → IsPermutation list order → ResolvesToEqual f order d

-- 1 if there is a value
abbrev pub one_if_some : {X : Type 0} → Option X → ℕ
one_if_some None = 0
one_if_some (Some x) = 1

-- how many parts a reference has
abbrev pub words_in : Reference → ℕ
words_in f = 1 + one_if_some f.version + one_if_some f.source

-- there is an order of the list in which the reference does not resolve to this dependency
abbrev pub IsAmbiguous : Reference → List Identity → Identity → Type 0
IsAmbiguous f list d = (order : List Identity) × IsPermutation list order
    × ¬ ResolvesToEqual f order d

-- for each reference of fewer parts there is an order of the list in which it does not resolve to
-- the dependency
abbrev pub IsLeast : Reference → List Identity → Identity → Type 0
IsLeast f list d = (g : Reference) → words_in g < words_in f → IsAmbiguous g list d

-- the text of the reference reads as a reference that is equal to it
abbrev pub IsReadBack : Reference → Type 0
IsReadBack f = (g : Reference) × (reference_of (reference_text f) ≡ Some g)
    × (reference_key g ≡ reference_key f)

-- The text is that of a reference which names the dependency and reads back, and each reference of
-- fewer parts does not resolve to it in some order of the list. In one case the reference need not
-- name it: if the dependency has no source and another package of its name and version is in the
-- list. Two parts are then all that can be written.
pub record IsShortest (list : List Identity) (d : Identity) (text : Option (List ℕ)) : Type 0 where
  pub reference : Reference
  pub written : text ≡ Some (reference_text reference)
  pub read : IsReadBack reference
  pub names : (d.source ≡ None → HasNoTwin list d) → Names reference list d
  pub least : IsLeast reference list d

-- ---- the texts of a table

-- the item at a place of a list of values
abbrev pub item_at : Items → ℕ → Option Data
item_at no_items k = None
item_at (item d ds) zero = Some d
item_at (item d ds) (suc k) = item_at ds k

-- the table of the package at a place
abbrev pub package_at : Members → ℕ → Option Members
package_at t k = required_list
    (get_member (codes "package") t) >>= λ packages. item_at packages k >>= members_in

-- the text of a dependency of the package at a place
abbrev pub reference_at : Members → ℕ → ℕ → Option (List ℕ)
reference_at t k j = package_at t k >>= λ encoded.
    required_list
    (get_member (codes "dependencies") encoded) >>= λ references. item_at references j >>= text_in

-- from V2 on references are shortened
abbrev pub IsShortening : ResolveVersion → Type 0
IsShortening V1 = ⊥
IsShortening V2 = Unit {0}
IsShortening V3 = Unit {0}
IsShortening V4 = Unit {0}

-- If the lockfile survives its own format, which is V2 or later, and no two packages are equal in
-- identity, each dependency that is among the packages is in the table in its shortest form.
abbrev pub HasShortestReferences : LockfileData → Members → Type 0
HasShortestReferences l t = Survives l l.version → IsShortening l.version
    → AreDistinct (map identity_of l.packages)
    → (k j : ℕ) (p : PackageData) (d : Identity) → slice_get l.packages k ≡ Some p
    → slice_get p.dependencies j ≡ Some d → IsAmong (map identity_of l.packages) d
    → IsShortest (map identity_of l.packages) d (reference_at t k j)

-- the table of each lockfile has the shortest references
abbrev pub ShortestReferences : Type 0
ShortestReferences = (l : LockfileData) → HasShortestReferences l (table_of l)

-- ---- what the written table of a package depends on

-- the identity has the name of one of the package's dependencies
abbrev pub bears_some : PackageData → Identity → Bool
bears_some p i = list_any (λ d. same_text i.name d.name) p.dependencies

-- the identities of the packages with the name of one of this package's dependencies
abbrev pub namesakes : PackageData → List PackageData → List Identity
namesakes p packages = filter (bears_some p) (map identity_of packages)

-- The table of a package is the same in two lockfiles of one format if the same packages, each as
-- often, have the names of its dependencies, in any order.
abbrev pub WrittenByBearers : Type 0
WrittenByBearers = (l m : LockfileData) (j k : ℕ) (p : PackageData) → l.version ≡ m.version
    → slice_get l.packages j ≡ Some p → slice_get m.packages k ≡ Some p
    → IsPermutation (namesakes p l.packages) (namesakes p m.packages)
    → package_at (table_of l) j ≡ package_at (table_of m) k
