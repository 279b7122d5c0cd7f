-- The conflicts about what is at places, as the program finds them.
use Rattle.std.specs.Prelude.{◌≡◌, ◌⊎◌, ◌↔◌, ◌++◌, ◌∷◌, [], ℕ, All, List, Option, Some, None, map}
use Rattle.std.specs.Prelude.{option_map, slice_get}
use Rattle.std.specs.Borrow.{Bor}
use Rattle.std.specs.List.{Contains}
use Rattle.std.specs.List.Sorted.{IsStrictlyIncreasing}
use Rattle.cargo_lock_parts.specs.Identity.{PackageData}
use Rattle.cargo_lock_merge_core.specs.declared.commits.SourceCommits.{SourceCommits}
use Rattle.cargo_lock_merge_core.specs.declared.conflicts.Conflict.{Conflict}
use Rattle.cargo_lock_merge_core.specs.declared.conflicts.Kind.{Kind}
use Rattle.cargo_lock_merge_core.specs.declared.conflicts.Kind.TheVariants.{Checksum, LostChecksum}
use Rattle.cargo_lock_merge_core.specs.declared.conflicts.Kind.TheVariants.{Package, Replacement}
use Rattle.cargo_lock_merge_core.specs.declared.conflicts.Kind.TheVariants.{Version}
use Rattle.cargo_lock_merge_core.specs.declared.entry.Chosen.{Chosen}
use Rattle.cargo_lock_merge_core.specs.declared.entry.Entry.{Entry}
use Rattle.cargo_lock_merge_core.specs.declared.plan.Plan.{Plan}
use Rattle.cargo_lock_merge_core.specs.declared.rows.Row.{Row}
use Rattle.cargo_lock_merge_core.specs.Choices.{HasLostChecksum, HasTwoNewVersions, IsChosen}
use Rattle.cargo_lock_merge_core.specs.Commits.{Lockfiles, git_in}
use Rattle.cargo_lock_merge_core.specs.Disputes.{HasDispute, IsSourceOf}
use Rattle.cargo_lock_merge_core.specs.Merge.{HaveAt, IsMatter, MatterData, OfChecksum}
use Rattle.cargo_lock_merge_core.specs.Merge.{OfLostChecksum, OfPackage, OfReplacement, OfVersion}
use Rattle.cargo_lock_merge_core.specs.Merge.{Triple, lockfiles_of}
use Rattle.cargo_lock_merge_core.specs.Numbered.{data_if, placed_data}
use Rattle.cargo_lock_merge_core.specs.Placed.{PlacedData}
use Rattle.lists.specs.Marks.{IsMarked}

-- the conflict about this at a place
abbrev pub conflict_of : {P : Type 0} → Kind → P → MatterData P
conflict_of Package p = OfPackage p
conflict_of Checksum p = OfChecksum p
conflict_of Replacement p = OfReplacement p
conflict_of Version p = OfVersion p
conflict_of LostChecksum p = OfLostChecksum p

-- the places of conflicts
abbrev pub conflict_places : List Conflict → List ℕ
conflict_places = map (λ c. c.place)

-- the package behind a reference that may be absent
abbrev pub now_if : Option (Bor PackageData) → Option PackageData
now_if = option_map (λ p. p.now)

-- the package that a list has at a place, if it has one
abbrev pub content_if : {P : Type 0} → Option (PlacedData P) → Option PackageData
content_if = option_map (λ x. x.content)

-- a package of a side is chosen of what is at a place, or none is
abbrev pub IsChosenIf : {P : Type 0} → Lockfiles → Option (PlacedData P) → Option (PlacedData P)
    → Option (PlacedData P) → Option PackageData → Type 0
IsChosenIf {P = P} all x y z None = (c : PlacedData P) → ¬ IsChosen all x y z c
IsChosenIf {P = P} all x y z (Some p) = (c : PlacedData P) × IsChosen all x y z c × (p ≡ c.content)

-- the git source of the first package, or of the second if there is no first, with its commits
abbrev pub IsSourceOfEither : Lockfiles → Option PackageData → Option PackageData
    → Option SourceCommits → Type 0
IsSourceOfEither all (Some o) t None = git_in o.source ≡ None
IsSourceOfEither all (Some o) t (Some c) = IsSourceOf all o c
IsSourceOfEither all None (Some t) None = git_in t.source ≡ None
IsSourceOfEither all None (Some t) (Some c) = IsSourceOf all t c
IsSourceOfEither all None None None = Unit {0}
IsSourceOfEither all None None (Some c) = ⊥

-- the conflict about this has what the three lists have at its place, which are these packages, what
-- is chosen of them, and their git source
pub record HasPackages (s : Triple ℕ) (about : Kind) (x y z : Option (PlacedData ℕ))
    (c : Conflict) : Type 0 where
  pub kind : c.kind ≡ about
  pub at : HaveAt s c.place x y z
  pub base : now_if c.base ≡ content_if x
  pub ours : now_if c.ours ≡ content_if y
  pub theirs : now_if c.theirs ≡ content_if z
  pub chosen : IsChosenIf (lockfiles_of s) x y z (now_if c.chosen)
  pub source : IsSourceOfEither (lockfiles_of s) (content_if y) (content_if z) c.source

-- the conflict is one about this
abbrev pub IsConflictAt : Triple ℕ → Kind → Conflict → Type 0
IsConflictAt s kind c = (x : Option (PlacedData ℕ)) × (y : Option (PlacedData ℕ))
    × (z : Option (PlacedData ℕ)) × HasPackages s kind x y z c

-- these are the conflicts about this, each once
pub record AreConflicts (s : Triple ℕ) (kind : Kind) (all : List Conflict) : Type 0 where
  pub ascending : IsStrictlyIncreasing (conflict_places all)
  pub holds : (p : ℕ) → Contains (conflict_places all) p ↔ IsMatter s (conflict_of kind p)
  pub each : All (IsConflictAt s kind) all

-- ---- as the program finds them

-- the sides are in conflict about this at the place of the row, where this package is chosen or
-- none is
abbrev pub HasConflict : Lockfiles → Kind → Row → Option Chosen → Type 0
HasConflict all Package r None = ¬ HasDispute all r
HasConflict all Package r (Some c) = ⊥
HasConflict all Checksum r None = ⊥
HasConflict all Checksum r (Some c) = c.checksum ≡ None
HasConflict all Replacement r None = ⊥
HasConflict all Replacement r (Some c) = c.replacement ≡ None
HasConflict all Version r None = ⊥
HasConflict all Version r (Some c) = HasTwoNewVersions (data_if r.base) (data_if r.ours) (data_if
    r.theirs)
HasConflict all LostChecksum r None = ⊥
HasConflict all LostChecksum r (Some c) = HasLostChecksum (data_if r.base) (data_if r.ours) (data_if
    r.theirs) (placed_data c.«package»)

-- the conflict is that of the entry about this
pub record IsConflictOf (all : Lockfiles) (about : Kind) (e : Entry) (c : Conflict) : Type 0 where
  pub kind : c.kind ≡ about
  pub place : c.place ≡ e.row.place
  pub base : now_if c.base ≡ content_if (data_if e.row.base)
  pub ours : now_if c.ours ≡ content_if (data_if e.row.ours)
  pub theirs : now_if c.theirs ≡ content_if (data_if e.row.theirs)
  pub chosen : now_if c.chosen ≡ option_map (λ d. d.«package».«package».now) e.chosen
  pub source : IsSourceOfEither all (content_if (data_if e.row.ours)) (content_if (data_if
      e.row.theirs)) c.source

-- the conflict of the entry about this is added, if there is one
abbrev pub HasPutConflict : Lockfiles → Kind → Entry → List Conflict → List Conflict → Type 0
HasPutConflict all kind e old new = (HasConflict all kind e.row e.chosen
    × ((c : Conflict) × IsConflictOf all kind e c × (new ≡ old ++ c ∷ [])))
    ⊎ ((¬ HasConflict all kind e.row e.chosen) × (new ≡ old))

-- the place is that of an entry that is reached, with such a conflict
abbrev pub IsConflictPlace : Plan → Lockfiles → Kind → ℕ → Type 0
IsConflictPlace plan all kind n = (k : ℕ) × (e : Entry) × (slice_get plan.entries.items k ≡ Some e)
    × (e.row.place ≡ n) × IsMarked plan.reached.items k × HasConflict all kind e.row e.chosen
