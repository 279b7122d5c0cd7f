-- The commits of git sources: all packages of a repository and a reference are at one commit.
use Rattle.std.specs.Prelude.{◌≡◌, ℕ, List, Option, Some, None, option_map, if◌then◌else◌}
use Rattle.std.specs.List.{Contains}
use Rattle.cargo_lock_parts.specs.Identity.{PackageData}
use Rattle.cargo_lock_parts.specs.Source.{Source, is_git}
use Rattle.cargo_lock_parts.specs.SourceKey.{Key}
use Rattle.cargo_lock_edges.specs.Nearest.{key_without_commit}
use Rattle.cargo_lock_merge_core.specs.Rule3.{IsDisputed, IsMergedValue}

-- the git source of a package without its commit, if the package has one
abbrev pub git_in : Option Source → Option Key
git_in None = None
git_in (Some s) = if is_git s.kind then Some (key_without_commit s) else None

-- the text that pins a source, for a git source its commit
abbrev pub commit_in : Option Source → Option (List ℕ)
commit_in None = None
commit_in (Some s) = s.precise

-- the package is of the git source, at the commit
abbrev pub IsAtSource : Key → Option (List ℕ) → PackageData → Type 0
IsAtSource g c p = (git_in p.source ≡ Some g) × (commit_in p.source ≡ c)

-- a package of the list has the source
abbrev pub HasSource : List PackageData → Source → Type 0
HasSource xs s = (p : PackageData) × Contains xs p × (p.source ≡ Some s)

-- the list has the git source at the commit
abbrev pub HasCommit : List PackageData → Key → Option (List ℕ) → Type 0
HasCommit xs g c = (p : PackageData) × Contains xs p × IsAtSource g c p

-- each git source of the list is at one commit
abbrev pub HasOneCommitEach : List PackageData → Type 0
HasOneCommitEach xs = (g : Key) (c d : Option (List ℕ)) → HasCommit xs g c → HasCommit xs g d
    → c ≡ d

-- the packages of the base and of the two sides
pub record Lockfiles : Type 0 where
  pub base : List PackageData
  pub ours : List PackageData
  pub theirs : List PackageData

-- the commit of a git source in a list, or none where the list has no package of the source
abbrev pub IsCommitIn : List PackageData → Key → Option (Option (List ℕ)) → Type 0
IsCommitIn xs g None = (c : Option (List ℕ)) → ¬ HasCommit xs g c
IsCommitIn xs g (Some c) = HasCommit xs g c

-- the commits of a git source in the base and in the two sides
pub record AreCommits (all : Lockfiles) (g : Key) (x y z : Option (Option (List ℕ))) : Type 0 where
  pub base : IsCommitIn all.base g x
  pub ours : IsCommitIn all.ours g y
  pub theirs : IsCommitIn all.theirs g z

-- the merged commit of a git source
abbrev pub IsMergedCommit : Lockfiles → Key → Option (List ℕ) → Type 0
IsMergedCommit all g c = (x : Option (Option (List ℕ))) × (y : Option (Option (List ℕ)))
    × (z : Option (Option (List ℕ))) × AreCommits all g x y z
    × IsMergedValue x (option_map Some y) (option_map Some z) (Some c)

-- the sides are in conflict about the commit of a git source
abbrev pub IsSourceConflict : Lockfiles → Key → Type 0
IsSourceConflict all g = (x : Option (Option (List ℕ))) × (y : Option (Option (List ℕ)))
    × (z : Option (Option (List ℕ))) × AreCommits all g x y z
    × IsDisputed x (option_map Some y) (option_map Some z)

-- the package is of a git source, at the merged commit
abbrev pub IsAtMergedCommit : Lockfiles → PackageData → Type 0
IsAtMergedCommit all p = (g : Key) × (git_in p.source ≡ Some g)
    × IsMergedCommit all g (commit_in p.source)
