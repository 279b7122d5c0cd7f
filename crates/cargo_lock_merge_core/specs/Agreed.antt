-- The rule of three by tests of which values are equal.
use Rattle.std.specs.Prelude.{◌⊎◌, ◌≡◌, Bool, IsTrue, Option, Some, None}
use Rattle.std.specs.Bool.{Decides}
use Rattle.cargo_lock_merge_core.specs.declared.rule3.Equal.{Equal}
use Rattle.cargo_lock_merge_core.specs.declared.rule3.Side.{Side}
use Rattle.cargo_lock_merge_core.specs.declared.rule3.Side.TheVariants.{Ours, Theirs}
use Rattle.cargo_lock_parts.specs.Identity.{PackageData}
use Rattle.cargo_lock_merge_core.specs.Choices.{HasLowerVersion, IsOfGit, IsVersionDecisive}
use Rattle.cargo_lock_merge_core.specs.Commits.{IsAtMergedCommit, Lockfiles}
use Rattle.cargo_lock_merge_core.specs.Placed.{PlacedData}
use Rattle.cargo_lock_merge_core.specs.Rule3.{HaveTwoValues, IsOnlyValue}

-- the side whose value is agreed on
abbrev pub IsAgreedSide : Equal → Option Side → Type 0
IsAgreedSide e (Some Ours) = IsTrue e.sides ⊎ IsTrue e.theirs
IsAgreedSide e (Some Theirs) = IsTrue e.ours
IsAgreedSide e None = (¬ IsTrue e.sides) × (¬ IsTrue e.ours) × ¬ IsTrue e.theirs

-- the tests say which of the values are equal
pub record AreEqual {X : Type 0} (b o t : X) (e : Equal) : Type 0 where
  pub sides : Decides e.sides (o ≡ t)
  pub ours : Decides e.ours (o ≡ b)
  pub theirs : Decides e.theirs (t ≡ b)

-- the side that is at the commit, where the tests say which sides are and whether both have one
-- identity
abbrev pub IsSideAt : Bool → Bool → Bool → Option Side → Type 0
IsSideAt ours theirs same (Some Ours) = IsTrue ours × (IsTrue theirs → IsTrue same)
IsSideAt ours theirs same (Some Theirs) = IsTrue theirs × ¬ IsTrue ours
IsSideAt ours theirs same None = ((¬ IsTrue ours) × ¬ IsTrue theirs)
    ⊎ (IsTrue ours × IsTrue theirs × ¬ IsTrue same)

-- the only package at a place is chosen: it is of no git source, or at the merged commit
abbrev pub IsUsable : Lockfiles → PackageData → Type 0
IsUsable all p = (¬ IsOfGit p) ⊎ IsAtMergedCommit all p

-- the only value of two that may be absent, or they differ
abbrev pub IsOnlyOf : {X : Type 0} → Option X → Option X → Option (Option X) → Type 0
IsOnlyOf a b (Some v) = IsOnlyValue None a b v
IsOnlyOf a b None = HaveTwoValues None a b

-- the side with the greater version, if the version decides
abbrev pub IsVersionSide : {P : Type 0} → Option (PlacedData P) → PlacedData P → PlacedData P
    → Option Side → Type 0
IsVersionSide b o t (Some Ours) = IsVersionDecisive b o t × HasLowerVersion t o
IsVersionSide b o t (Some Theirs) = IsVersionDecisive b o t × HasLowerVersion o t
IsVersionSide b o t None = ¬ (IsVersionDecisive b o t
    × (HasLowerVersion t o ⊎ HasLowerVersion o t))
