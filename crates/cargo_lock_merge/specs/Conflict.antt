-- What the two sides of a merge of three lists are in conflict about.
use Rattle.std.specs.Prelude.{◌≢◌, ◌↔◌, ℕ, All, List, map}
use Rattle.std.specs.List.{AllPairs, Contains}
use Rattle.cargo_lock_merge_core.specs.declared.conflicts.Conflict as merging
use Rattle.cargo_lock_merge_core.specs.Conflicts.{IsConflictAt, conflict_of}
use Rattle.cargo_lock_merge_core.specs.Disputes.{AreInDispute, HasCommits, source_key}
use Rattle.cargo_lock_merge_core.specs.Merge.{IsConflicting, IsMatter, MatterData, Triple, lockfiles_of}
use Rattle.cargo_lock_merge_core.specs.Merge as merge
use Rattle.cargo_lock_merge.specs.declared.conflict.Conflict.{Conflict}
use Rattle.cargo_lock_merge.specs.declared.conflict.Conflict.TheVariants.{AtPlace, OfSource}

-- what the conflict is about
abbrev pub conflict_subject : Conflict → MatterData ℕ
conflict_subject (AtPlace c) = conflict_of c.kind c.place
conflict_subject (OfSource c) = merge.OfSource (source_key c)

-- the conflict has what the three lists have of its subject
abbrev pub HasSubject : Triple ℕ → Conflict → Type 0
HasSubject s (AtPlace c) = IsConflictAt s c.kind c
HasSubject s (OfSource c) = HasCommits (lockfiles_of s) c × AreInDispute c

-- these are the conflicts, each once
pub record AreConflictsOf (s : Triple ℕ) (all : List Conflict) : Type 0 where
  pub exact : (c : MatterData ℕ) → Contains (map conflict_subject all) c
      ↔ (IsConflicting c × IsMatter s c)
  pub once : AllPairs (λ a b. a ≢ b) (map conflict_subject all)
  pub each : All (HasSubject s) all

-- ---- as the program has them

-- what there is to report of a place
abbrev pub subject_at : merging.Conflict → MatterData ℕ
subject_at c = conflict_of c.kind c.place

-- the matter is a conflict about what is at a place
abbrev pub IsAtPlace : MatterData ℕ → Type 0
IsAtPlace (merge.OfPackage p) = Unit {0}
IsAtPlace (merge.OfChecksum p) = Unit {0}
IsAtPlace (merge.OfReplacement p) = Unit {0}
IsAtPlace (merge.OfSource g) = ⊥
IsAtPlace (merge.OfVersion p) = ⊥
IsAtPlace (merge.OfLostChecksum p) = ⊥

-- these are the conflicts about what is at places, each once
pub record AreConflictsAtPlaces (s : Triple ℕ) (all : List merging.Conflict) : Type 0 where
  pub exact : (c : MatterData ℕ) → Contains (map subject_at all) c
      ↔ (IsAtPlace c × IsMatter s c)
  pub once : AllPairs (λ a b. a ≢ b) (map subject_at all)
  pub each : All (λ c. IsConflictAt s c.kind c) all
