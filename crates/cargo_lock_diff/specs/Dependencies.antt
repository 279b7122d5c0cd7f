-- The dependencies that only one of the two packages of a pair has. An old and a new dependency are
-- the same if they are one, or if their packages are a pair. So a dependency that no package fits
-- is the same as itself.
use Rattle.std.specs.Prelude.{◌≡◌, ◌↔◌, ◌⊎◌, ◌&&◌, ◌||◌, Bool, true, false, not, List}
use Rattle.std.specs.Prelude.{if◌then◌else◌}
use Rattle.std.specs.List.{Contains, filter, list_any}
use Rattle.std.specs.Ordering.{eq_by_cmp}
use Rattle.cargo_lock_parts.specs.Identity.{Identity, PackageData, identity_of}
use Rattle.cargo_lock_diff.specs.Place.{target_cmp}

-- the dependency is of the package: it has its name, its version and its origin. The commit is
-- ignored, since a reference may have none, and the branch `master` is the default branch.
abbrev pub is_target : PackageData → Identity → Bool
is_target p d = eq_by_cmp target_cmp (identity_of p) d

-- an old and a new dependency are of the packages of a pair
abbrev pub are_targets : PackageData × PackageData → Identity → Identity → Bool
are_targets p d e = is_target p.0 d && is_target p.1 e

-- some of these pairs carries the old dependency onto the new one
abbrev pub is_carried : List (PackageData × PackageData) → Identity → Identity → Bool
is_carried pairs d e = list_any (λ p. are_targets p d e) pairs

-- the same, where `forward` says whether the first one is the old one
abbrev pub is_carried_either : Bool → List (PackageData × PackageData) → Identity → Identity → Bool
is_carried_either forward pairs d e = if forward then is_carried pairs d e else is_carried pairs e d

-- dependencies are one: they have one name, one version and one origin, as above
abbrev pub are_one : Identity → Identity → Bool
are_one = eq_by_cmp target_cmp

-- the dependency is one of the others, or some of these is carried onto it, or it onto that one
abbrev pub is_met : Bool → List (PackageData × PackageData) → List Identity → Identity → Bool
is_met forward pairs others d =
    list_any (are_one d) others || list_any (is_carried_either forward pairs d) others

-- the dependencies of the first list that meet none of the second
abbrev pub only_in : Bool → List (PackageData × PackageData) → List Identity → List Identity
    → List Identity
only_in forward pairs these others = filter (λ d. not (is_met forward pairs others d)) these

-- one of the two packages has a dependency that none of the other meets
abbrev pub have_other_dependencies : List (PackageData × PackageData)
    → PackageData → PackageData → Bool
have_other_dependencies pairs old new =
    list_any (λ d. not (is_met true pairs new.dependencies d)) old.dependencies
    || list_any (λ d. not (is_met false pairs old.dependencies d)) new.dependencies

-- ---- law

-- a pair among these carries the old dependency onto the new one
abbrev pub IsCarried : List (PackageData × PackageData) → Identity → Identity → Type 0
IsCarried pairs d e = (p : PackageData × PackageData) × Contains pairs p
    × (is_target p.0 d ≡ true) × (is_target p.1 e ≡ true)

-- an old and a new dependency are the same
abbrev pub AreSame : List (PackageData × PackageData) → Identity → Identity → Type 0
AreSame pairs d e = (are_one d e ≡ true) ⊎ IsCarried pairs d e

-- Packages have the same dependencies exactly if each old one is the same as some new one, and each
-- new one as some old one.
abbrev pub EqualIfCarried : Type 0
EqualIfCarried = (pairs : List (PackageData × PackageData)) (old new : PackageData)
    → (have_other_dependencies pairs old new ≡ false)
    ↔ (((d : Identity) → Contains old.dependencies d
    → (e : Identity) × Contains new.dependencies e × AreSame pairs d e)
    × ((e : Identity) → Contains new.dependencies e
    → (d : Identity) × Contains old.dependencies d × AreSame pairs d e))
