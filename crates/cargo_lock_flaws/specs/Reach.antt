-- Which packages the packages of the workspace lead to.
--
-- A package leads to the packages that match its dependencies and its replacement best. If several
-- match one of these equally well, such as one at a branch and one at a commit of one repository,
-- it leads to each of them. A lockfile of V1 may have a separate root, which is of the workspace
-- too.
use Rattle.std.specs.Prelude.{◌≡◌, ℕ, List, Option, Some, None, ◌⊎◌}
use Rattle.std.specs.List.{Contains}
use Rattle.cargo_lock_parts.specs.Identity.{Identity, PackageData}
use Rattle.cargo_lock_graph.specs.Targets.{HoldsOf}
use Rattle.lists.specs.Chains.{IsReachedFrom}
use Rattle.cargo_lock_edges.specs.Best.{IsOneOfBest}

-- the identity is one of a package's dependencies, or its replacement
abbrev pub IsAskedBy : PackageData → Identity → Type 0
IsAskedBy p d = Contains p.dependencies d ⊎ (p.replace ≡ Some d)

-- the package at the place is one of those that match best a dependency or the replacement of p
abbrev pub AsksFor : List PackageData → PackageData → ℕ → Type 0
AsksFor packages p place = (d : Identity) × IsAskedBy p d × IsOneOfBest packages d place

-- the package at b is one of those that match best a dependency or the replacement of the package
-- at a
abbrev pub PackageLeadsTo : List PackageData → ℕ → ℕ → Type 0
PackageLeadsTo packages a b = HoldsOf (λ p. AsksFor packages p b) packages a

-- the package at the place is one of the workspace: it has no source
abbrev pub IsWorkspacePackage : List PackageData → ℕ → Type 0
IsWorkspacePackage packages place = HoldsOf (λ p. p.source ≡ None) packages place

-- the package at the place is one of those that match best a dependency or the replacement of the
-- separate root
abbrev pub RootLeadsTo : List PackageData → Option PackageData → ℕ → Type 0
RootLeadsTo packages root place = (p : PackageData) × (root ≡ Some p) × AsksFor packages p place

-- a chain begins at the place: at a package of the workspace, or at one to which the separate root
-- leads
abbrev pub IsStart : List PackageData → Option PackageData → ℕ → Type 0
IsStart packages root place = IsWorkspacePackage packages place ⊎ RootLeadsTo packages root place

-- a chain leads to the place
abbrev pub IsReachedFromWorkspace : List PackageData → Option PackageData → ℕ → Type 0
IsReachedFromWorkspace packages root =
    IsReachedFrom (IsStart packages root) (PackageLeadsTo packages)

-- no chain leads to the place
abbrev pub IsOrphan : List PackageData → Option PackageData → ℕ → Type 0
IsOrphan packages root place = ¬ IsReachedFromWorkspace packages root place
