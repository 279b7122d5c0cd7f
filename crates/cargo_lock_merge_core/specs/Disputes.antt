-- The git sources about whose commit the sides are in conflict, as the program has them.
use Rattle.std.specs.Prelude.{◌≡◌, ◌≢◌, ◌⊎◌, ◌↔◌, ℕ, All, IsSome, IsTrue, List, Option, Some, None, map, option_map, slice_get}
use Rattle.std.specs.Borrow.{Bor}
use Rattle.std.specs.BTreeMap.{BTreeMap, get}
use Rattle.std.specs.List.{AllPairs, Contains}
use Rattle.cargo_lock_parts.specs.Identity.{PackageData}
use Rattle.cargo_lock_parts.specs.Source.{Source, is_git}
use Rattle.cargo_lock_parts.specs.SourceKey.{Key, key_of, source_cmp}
use Rattle.cargo_lock_merge_core.specs.declared.commits.SourceCommits.{SourceCommits}
use Rattle.cargo_lock_merge_core.specs.declared.entry.Entry.{Entry}
use Rattle.cargo_lock_merge_core.specs.declared.plan.Plan.{Plan}
use Rattle.cargo_lock_merge_core.specs.declared.rows.Row.{Row}
use Rattle.cargo_lock_merge_core.specs.CommitMaps.{IsBareGit, commit_if}
use Rattle.cargo_lock_merge_core.specs.Commits.{AreCommits, IsSourceConflict, Lockfiles, git_in}
use Rattle.cargo_lock_edges.specs.Nearest.{key_without_commit}
use Rattle.cargo_lock_merge_core.specs.LawsOfMerges.{HaveOneCommitEach}
use Rattle.cargo_lock_merge_core.specs.Merge.{IsMatter, OfSource, Triple, lockfiles_of}
use Rattle.cargo_lock_merge_core.specs.Numbered.{data_if}
use Rattle.cargo_lock_merge_core.specs.Placed.{PlacedData}
use Rattle.lists.specs.Marks.{IsMarked}
use Rattle.cargo_lock_merge_core.specs.Rule3.{IsDisputed}

-- what distinguishes the git source from others, without its commit
abbrev pub source_key : SourceCommits → Key
source_key c = key_without_commit c.source.now

-- these are a git source and its commits in the three lists
pub record HasCommits (all : Lockfiles) (c : SourceCommits) : Type 0 where
  pub git : IsTrue (is_git c.source.now.kind)
  pub commits : AreCommits all (source_key c) (commit_if c.base) (commit_if c.ours) (commit_if
      c.theirs)

-- the sides are in conflict about these commits
abbrev pub AreInDispute : SourceCommits → Type 0
AreInDispute c = IsDisputed (commit_if c.base) (option_map Some (commit_if c.ours)) (option_map Some
    (commit_if c.theirs))

-- these are the git source of a package, and its commits: each list has one
pub record IsSourceOf (all : Lockfiles) (p : PackageData) (c : SourceCommits) : Type 0 where
  pub source : git_in p.source ≡ Some (source_key c)
  pub commits : HasCommits all c
  pub one : HaveOneCommitEach all

-- these are the git sources of conflicts, each once
pub record AreDisputes (s : Triple ℕ) (all : List SourceCommits) : Type 0 where
  pub exact : (g : Key) → Contains (map source_key all) g ↔ IsMatter s (OfSource g)
  pub once : AllPairs (λ g k. g ≢ k) (map source_key all)
  pub each : All (λ c. HasCommits (lockfiles_of s) c × AreInDispute c) all

-- ---- as the program finds them

-- the package, if there is one, is of the git source, about whose commit the sides are in conflict
abbrev pub IsDisputedOf : Lockfiles → Option (PlacedData ℕ) → Key → Type 0
IsDisputedOf all None g = ⊥
IsDisputedOf all (Some x) g = (git_in x.content.source ≡ Some g) × IsSourceConflict all g

-- the sides are in conflict about the commit of no source of the package
abbrev pub HasNoDispute : Lockfiles → Option (PlacedData ℕ) → Type 0
HasNoDispute all o = (g : Key) → ¬ IsDisputedOf all o g

-- the sides are in conflict about the commit of the source of a package of the row
abbrev pub HasDispute : Lockfiles → Row → Type 0
HasDispute all r = (g : Key) × (IsDisputedOf all (data_if r.ours) g ⊎ IsDisputedOf all (data_if
    r.theirs) g)

-- the source of the package, and its commits, about which the sides are in conflict
pub record IsDisputeOf (all : Lockfiles) (o : Option (PlacedData ℕ)) (c : SourceCommits) : Type 0
  where
    pub of : IsDisputedOf all o (source_key c)
    pub commits : HasCommits all c
    pub dispute : AreInDispute c

-- sources of conflicts, each once, of which the map has the same
pub record AreListedDisputes (all : Lockfiles) (list : List SourceCommits)
    (known : BTreeMap Source (Bor Source)) : Type 0 where
  pub each : All (λ c. HasCommits all c × AreInDispute c) list
  pub once : AllPairs (λ g k. g ≢ k) (map source_key list)
  pub seen : (s : Source) → IsBareGit s
      → IsSome (get source_cmp known s) ↔ Contains (map source_key list) (key_of s)

-- the source is in the list too
pub record HasPutNew (all : Lockfiles) (c : SourceCommits) (old new : List SourceCommits)
    (seen : BTreeMap Source (Bor Source)) : Type 0 where
  pub listed : HasCommits all c → AreInDispute c → AreListedDisputes all new seen
  pub holds : (g : Key) → Contains (map source_key new) g
      ↔ (Contains (map source_key old) g ⊎ (source_key c ≡ g))

-- the source of the package is in the list too, if the sides are in conflict about its commit
pub record HasPutDispute (all : Lockfiles) (o : Option (PlacedData ℕ))
    (old new : List SourceCommits) (seen : BTreeMap Source (Bor Source)) : Type 0 where
  pub listed : AreListedDisputes all new seen
  pub holds : (g : Key) → Contains (map source_key new) g
      ↔ (Contains (map source_key old) g ⊎ IsDisputedOf all o g)

-- the source is that of a package of an entry that is reached, and of a conflict
abbrev pub IsDisputeAt : Plan → Lockfiles → ℕ → Key → Type 0
IsDisputeAt plan all k g = (e : Entry) × (slice_get plan.entries.items k ≡ Some e)
    × IsMarked plan.reached.items k
    × (IsDisputedOf all (data_if e.row.ours) g ⊎ IsDisputedOf all (data_if e.row.theirs) g)
