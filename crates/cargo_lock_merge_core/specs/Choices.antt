-- Which package a merge has at a place, and what that refers to: of the packages that the base and
-- the two sides have there.
use Rattle.std.specs.Prelude.{◌≡◌, ◌⊎◌, ℕ, IsTrue, List, Option, Some, None, option_map}
use Rattle.std.specs.Prelude.{if◌then◌else◌}
use Rattle.std.specs.List.{Contains}
use Rattle.std.specs.declared.cmp.Ordering.TheVariants.{Less}
use Rattle.cargo_lock_parts.specs.Identity.{PackageData, identity_of}
use Rattle.cargo_lock_parts.specs.IdentityOrder.{is_same_identity, version_cmp}
use Rattle.cargo_lock_parts.specs.Source.{Source, is_registry}
use Rattle.cargo_lock_parts.specs.SourceKey.{Key}
use Rattle.cargo_lock_merge_core.specs.Commits.{IsAtMergedCommit, IsSourceConflict, Lockfiles, git_in}
use Rattle.cargo_lock_merge_core.specs.Placed.{PlacedData, key, key_if}
use Rattle.cargo_lock_merge_core.specs.Rule3.{HaveTwoValues, IsAgreed, IsDisputed, IsInConflict, IsKept}
use Rattle.cargo_lock_merge_core.specs.Rule3.{IsMergedValue, IsOnlyValue}

-- the package is that of one of the two sides
abbrev pub IsOfSide : {P : Type 0} → Option (PlacedData P) → Option (PlacedData P) → PlacedData P
    → Type 0
IsOfSide o t x = (o ≡ Some x) ⊎ (t ≡ Some x)

-- the package is of a git source
abbrev pub IsOfGit : PackageData → Type 0
IsOfGit p = (g : Key) × (git_in p.source ≡ Some g)

-- a package of the two sides is of a git source
abbrev pub AreOfGit : {P : Type 0} → Option (PlacedData P) → Option (PlacedData P) → Type 0
AreOfGit {P = P} o t = (x : PlacedData P) × IsOfSide o t x × IsOfGit x.content

-- the package is of a registry
abbrev pub IsOfRegistry : PackageData → Type 0
IsOfRegistry p = (s : Source) × (p.source ≡ Some s) × IsTrue (is_registry s.kind)

-- the version of y is above that of x
abbrev pub HasLowerVersion : {P : Type 0} → PlacedData P → PlacedData P → Type 0
HasLowerVersion x y = version_cmp x.content.version y.content.version ≡ Less

-- the base has no package at the place, or both sides' versions are above the base's
abbrev pub AreAbove : {P : Type 0} → Option (PlacedData P) → PlacedData P → PlacedData P → Type 0
AreAbove None o t = Unit {0}
AreAbove (Some b) o t = HasLowerVersion b o × HasLowerVersion b t

-- both packages are of a registry, with versions above the base's
pub record AreUpdated {P : Type 0} (b : Option (PlacedData P)) (o t : PlacedData P) : Type 0 where
  pub ours : IsOfRegistry o.content
  pub theirs : IsOfRegistry t.content
  pub above : AreAbove b o t

-- the package has no source: it is a member of the workspace, or a package at a path
abbrev pub IsSourceless : {P : Type 0} → PlacedData P → Type 0
IsSourceless x = x.content.source ≡ None

-- all three have the package, and none has a source for it
pub record AreOfMember {P : Type 0} (b : Option (PlacedData P)) (o t : PlacedData P) : Type 0 where
  pub old : PlacedData P
  pub base : b ≡ Some old
  pub sourceless : IsSourceless old
  pub ours : IsSourceless o
  pub theirs : IsSourceless t

-- the greater of two versions decides
abbrev pub IsVersionDecisive : {P : Type 0} → Option (PlacedData P) → PlacedData P → PlacedData P
    → Type 0
IsVersionDecisive b o t = AreUpdated b o t ⊎ AreOfMember b o t

-- both sides changed the package, and the greater version decides
pub record IsByVersion {P : Type 0} (b : Option (PlacedData P)) (o t : PlacedData P) : Type 0 where
  pub changed : IsInConflict (key_if b) (Some (key o)) (Some (key t))
  pub decisive : IsVersionDecisive b o t

-- x has the greater version of two packages
abbrev pub IsGreater : {P : Type 0} → PlacedData P → PlacedData P → PlacedData P → Type 0
IsGreater o t x = (HasLowerVersion t o × (key x ≡ key o)) ⊎ (HasLowerVersion o t × (key x ≡ key t))

-- x is what a merge has of these packages, where they are of no git source: the only one, or what
-- is agreed on, or the one with the greater version where that decides
abbrev pub IsByRule : {P : Type 0} → Option (PlacedData P) → Option (PlacedData P)
    → Option (PlacedData P) → PlacedData P → Type 0
IsByRule b (Some o) (Some t) x = IsAgreed (key_if b) (Some (key o)) (Some (key t)) (Some (key x))
    ⊎ (IsByVersion b o t × IsGreater o t x)
IsByRule b o t x = Unit {0}

-- x is what a merge has of these packages, where they are of a git source: it is at the merged
-- commit, and so is no package of a side with another identity
pub record IsByCommit {P : Type 0} (all : Lockfiles) (o t : Option (PlacedData P))
    (x : PlacedData P) : Type 0 where
  pub this : IsAtMergedCommit all x.content
  pub others : (y : PlacedData P) → IsOfSide o t y → IsAtMergedCommit all y.content → key y ≡ key x

-- x is the package of a side that a merge has at a place
abbrev pub IsChosen : {P : Type 0} → Lockfiles → Option (PlacedData P) → Option (PlacedData P)
    → Option (PlacedData P) → PlacedData P → Type 0
IsChosen all b o t x = IsOfSide o t x
    × ((AreOfGit o t × IsByCommit all o t x) ⊎ ((¬ AreOfGit o t) × IsByRule b o t x))

-- a side has a package at the place, and none is chosen: the sides are in conflict about it
pub record IsClash {P : Type 0} (all : Lockfiles) (b o t : Option (PlacedData P)) : Type 0 where
  pub one : PlacedData P
  pub of_side : IsOfSide o t one
  pub none : (x : PlacedData P) → ¬ IsChosen all b o t x

-- such a conflict is not one about the commit of the source
abbrev pub IsPackageConflict : {P : Type 0} → Lockfiles → Option (PlacedData P)
    → Option (PlacedData P) → Option (PlacedData P) → Type 0
IsPackageConflict {P = P} all b o t = IsClash all b o t
    × ((x : PlacedData P) (g : Key) → IsOfSide o t x → git_in x.content.source ≡ Some g
    → ¬ IsSourceConflict all g)

-- ---- dependencies

-- the package, if there is one, depends on the place d
abbrev pub DependsOn : {P : Type 0} → Option (PlacedData P) → P → Type 0
DependsOn None d = ⊥
DependsOn (Some x) d = Contains x.dependencies d

-- A side's package y counts where it has the identity of the chosen x or of the base's package, or
-- no source: the dependencies of a member of the workspace are its own in each version.
abbrev pub Counts : {P : Type 0} → Option (PlacedData P) → PlacedData P → PlacedData P → Type 0
Counts b x y = (key y ≡ key x) ⊎ ((key_if b ≡ Some (key y)) ⊎ IsSourceless y)

-- the chosen x depends on the place d: where one side has no package or one that does not count,
-- the other's does; else by the rule of three
abbrev pub IsDependencyOf : {P : Type 0} → Option (PlacedData P) → Option (PlacedData P)
    → Option (PlacedData P) → PlacedData P → P → Type 0
IsDependencyOf b (Some o) (Some t) x d =
    (Counts b x o × Counts b x t
    × IsKept (DependsOn b d) (Contains o.dependencies d) (Contains t.dependencies d))
    ⊎ (((¬ Counts b x o) × Contains t.dependencies d)
    ⊎ ((¬ Counts b x t) × Contains o.dependencies d))
IsDependencyOf b o t x d = DependsOn o d ⊎ DependsOn t d

-- What a merge depends on at a place: what the chosen package does. In a conflict what the packages
-- of both sides do, so that what is reached does not depend on the side.
abbrev pub IsDependency : {P : Type 0} → Lockfiles → Option (PlacedData P) → Option (PlacedData P)
    → Option (PlacedData P) → P → Type 0
IsDependency {P = P} all b o t d =
    ((x : PlacedData P) × IsChosen all b o t x × IsDependencyOf b o t x d)
    ⊎ (IsClash all b o t × (DependsOn o d ⊎ DependsOn t d))

-- ---- checksums and replacements

-- the package, if it has the identity of x
abbrev pub if_same : {P : Type 0} → PlacedData P → Option (PlacedData P) → Option (PlacedData P)
if_same x None = None
if_same x (Some y) =
    if is_same_identity (identity_of y.content) (identity_of x.content) then Some y else None

-- the checksum of a package that may be absent
abbrev pub checksum_if : {P : Type 0} → Option (PlacedData P) → Option (List ℕ)
checksum_if None = None
checksum_if (Some x) = x.content.checksum

-- the place of the replacement of a package that may be absent
abbrev pub replacement_if : {P : Type 0} → Option (PlacedData P) → Option P
replacement_if None = None
replacement_if (Some x) = x.replacement

-- the checksum of the chosen x: the only one that its identity has in the three lists, if it has
-- any, since the checksum of a package never changes
abbrev pub IsChecksum : {P : Type 0} → Option (PlacedData P) → Option (PlacedData P)
    → Option (PlacedData P) → PlacedData P → Option (List ℕ) → Type 0
IsChecksum b o t x c = IsOnlyValue (checksum_if (if_same x b)) (checksum_if (if_same x o))
    (checksum_if (if_same x t)) c

-- the identity of the chosen x has two checksums in the three lists
abbrev pub IsChecksumConflict : {P : Type 0} → Option (PlacedData P) → Option (PlacedData P)
    → Option (PlacedData P) → PlacedData P → Type 0
IsChecksumConflict b o t x = HaveTwoValues (checksum_if (if_same x b)) (checksum_if (if_same x o))
    (checksum_if (if_same x t))

-- a side's package has the identity of x, and no checksum
abbrev pub HasNoChecksumFor : {P : Type 0} → PlacedData P → Option (PlacedData P) → Type 0
HasNoChecksumFor {P = P} x o = (y : PlacedData P) × (if_same x o ≡ Some y)
    × (y.content.checksum ≡ None)

-- the base has a checksum of the chosen x, and a side has it no more
abbrev pub HasLostChecksum : {P : Type 0} → Option (PlacedData P) → Option (PlacedData P)
    → Option (PlacedData P) → PlacedData P → Type 0
HasLostChecksum b o t x = (c : List ℕ) × (checksum_if (if_same x b) ≡ Some c)
    × (HasNoChecksumFor x o ⊎ HasNoChecksumFor x t)

-- all three have a member of the workspace, in versions that differ
abbrev pub HasTwoNewVersions : {P : Type 0} → Option (PlacedData P) → Option (PlacedData P)
    → Option (PlacedData P) → Type 0
HasTwoNewVersions b (Some o) (Some t) = AreOfMember b o t
    × IsInConflict (key_if b) (Some (key o)) (Some (key t))
HasTwoNewVersions b o t = ⊥

-- the place of the replacement of the chosen x, of those that its identity has
abbrev pub IsReplacement : {P : Type 0} → Option (PlacedData P) → Option (PlacedData P)
    → Option (PlacedData P) → PlacedData P → Option P → Type 0
IsReplacement b o t x r = IsMergedValue (replacement_if (if_same x b))
    (option_map (λ y. y.replacement) (if_same x o))
    (option_map (λ y. y.replacement) (if_same x t)) r

-- the sides are in conflict about the replacement of the chosen x
abbrev pub IsReplacementConflict : {P : Type 0} → Option (PlacedData P) → Option (PlacedData P)
    → Option (PlacedData P) → PlacedData P → Type 0
IsReplacementConflict b o t x = IsDisputed (replacement_if (if_same x b))
    (option_map (λ y. y.replacement) (if_same x o))
    (option_map (λ y. y.replacement) (if_same x t))
