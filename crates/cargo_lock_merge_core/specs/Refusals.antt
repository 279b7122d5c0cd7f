-- Why a lockfile cannot be merged.
use Rattle.std.specs.Prelude.{◌≡◌, ◌≢◌, ◌<◌, ℕ, List, Some, None, slice_get, true}
use Rattle.std.specs.Borrow.{Bor}
use Rattle.std.specs.BTreeMap.{BTreeMap, get}
use Rattle.std.specs.List.{Contains}
use Rattle.cargo_lock_parts.specs.Identity.{Identity, PackageData}
use Rattle.cargo_lock_parts.specs.Source.{Source, is_git}
use Rattle.cargo_lock_parts.specs.SourceKey.{source_cmp}
use Rattle.cargo_lock_parts.specs.declared.error.Error.{Error}
use Rattle.cargo_lock_parts.specs.declared.error.Error.TheVariants.{Resolution}
use Rattle.cargo_lock_graph.specs.Targets.{IsUnresolved, links}
use Rattle.cargo_lock_merge_core.specs.declared.refusal.Refusal.{Refusal}
use Rattle.cargo_lock_merge_core.specs.declared.refusal.Refusal.TheVariants.{Lost, OnePlace, TwoCommits}
use Rattle.cargo_lock_merge_core.specs.declared.refusal.Refusal.TheVariants.{Unreplaced}
use Rattle.cargo_lock_merge_core.specs.declared.refusal.Fault.{Fault}
use Rattle.cargo_lock_merge_core.specs.declared.refusal.Fault.TheVariants.{Memory, Refused}
use Rattle.cargo_lock_edges.specs.Nearest.{key_without_commit}
use Rattle.cargo_lock_merge_core.specs.Commits.{HasSource, Lockfiles}
use Rattle.cargo_lock_merge_core.specs.Linked.{IsStatedAt}
use Rattle.cargo_lock_merge_core.specs.Lists.{BeginsAt}
use Rattle.cargo_lock_merge_core.specs.Places.{Place, merge_place}

-- the list has p and later q, which are at one place
pub record AreAtOnePlace (all : Lockfiles) (packages : List PackageData) (p q : PackageData) : Type 0
  where
    pub one : ℕ
    pub other : ℕ
    pub later : one < other
    pub one_at : slice_get packages one ≡ Some p
    pub other_at : slice_get packages other ≡ Some q
    pub same : merge_place all p ≡ merge_place all q

-- two packages of the list have the sources a and b, which are one git source at two commits
pub record AreAtTwoCommits (packages : List PackageData) (a b : Source) : Type 0 where
  pub one : HasSource packages a
  pub other : HasSource packages b
  pub git : is_git b.kind ≡ true
  pub same : key_without_commit a ≡ key_without_commit b
  pub apart : a.precise ≢ b.precise

-- a package of the list is replaced, and no package is stated by its replacement
pub record IsUnreplaced (packages : List PackageData) (p : PackageData) : Type 0 where
  pub among : Contains packages p
  pub identity : Identity
  pub replaced : p.replace ≡ Some identity
  pub none : (k : ℕ) → ¬ IsStatedAt packages identity k

-- the list is refused for this
abbrev pub IsRefusal : Lockfiles → List PackageData → Refusal → Type 0
IsRefusal all packages (OnePlace p q) = AreAtOnePlace all packages p.now q.now
IsRefusal all packages (TwoCommits a b) = AreAtTwoCommits packages a.now b.now
IsRefusal all packages (Unreplaced p) = IsUnreplaced packages p.now
IsRefusal all packages (Lost text) = IsUnresolved packages (links packages) (Resolution text)

-- the fault is `Memory`, or the list is refused
abbrev pub IsFault : Lockfiles → List PackageData → Fault → Type 0
IsFault all packages Memory = Unit {0}
IsFault all packages (Refused refusal) = IsRefusal all packages refusal

-- the same where the places of the packages begin at an index
abbrev pub IsFaultFrom : List Place → ℕ → List PackageData → Fault → Type 0
IsFaultFrom places offset packages fault = (all : Lockfiles)
    → BeginsAt all places packages offset → IsFault all packages fault

-- the fault is `Memory`, or a dependency resolves to no package
abbrev pub IsLostOrMemory : List PackageData → Fault → Type 0
IsLostOrMemory packages Memory = Unit {0}
IsLostOrMemory packages (Refused (Lost text)) = IsUnresolved packages (links packages)
    (Resolution text)
IsLostOrMemory packages (Refused other) = ⊥

-- the fault is `Memory`, or two packages are at different commits
abbrev pub IsTwoOrMemory : List PackageData → Fault → Type 0
IsTwoOrMemory packages Memory = Unit {0}
IsTwoOrMemory packages (Refused (TwoCommits a b)) = AreAtTwoCommits packages a.now b.now
IsTwoOrMemory packages (Refused other) = ⊥

-- the fault is `Memory`, or the map has another commit of the git source of the package
abbrev pub IsApartOrMemory : BTreeMap Source (Bor Source) → PackageData → Fault → Type 0
IsApartOrMemory map p Memory = Unit {0}
IsApartOrMemory map p (Refused (TwoCommits a b)) = (p.source ≡ Some b.now)
    × (is_git b.now.kind ≡ true) × (get source_cmp map (record b.now { precise = None }) ≡ Some a)
    × (a.now.precise ≢ b.now.precise)
IsApartOrMemory map p (Refused other) = ⊥

-- the fault of an error: a dependency without a package is refused
abbrev pub IsOfError : Error → Fault → Type 0
IsOfError (Resolution text) fault = fault ≡ Refused (Lost text)
IsOfError other fault = fault ≡ Memory
