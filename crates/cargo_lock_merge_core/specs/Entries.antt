-- What a merge has at a place that is a number, as the program has it.
use Rattle.std.specs.Prelude.{◌⊎◌, ◌↔◌, ℕ, Option, Some, None, option_map}
use Rattle.std.specs.List.{Contains}
use Rattle.std.specs.List.Sorted.{IsStrictlyIncreasing}
use Rattle.cargo_lock_parts.specs.Checksum.{digest_of}
use Rattle.cargo_lock_merge_core.specs.declared.entry.Chosen.{Chosen}
use Rattle.cargo_lock_merge_core.specs.declared.entry.Entry.{Entry}
use Rattle.cargo_lock_merge_core.specs.declared.rows.Row.{Row}
use Rattle.cargo_lock_merge_core.specs.declared.rule3.Side.{Side}
use Rattle.cargo_lock_merge_core.specs.Choices.{DependsOn, IsChosen, IsDependencyOf, IsReplacement}
use Rattle.cargo_lock_merge_core.specs.Commits.{Lockfiles}
use Rattle.cargo_lock_merge_core.specs.Numbered.{HasAscending, IsChecksumChoice, IsChoice}
use Rattle.cargo_lock_merge_core.specs.Numbered.{IsReplacementChoice, data_if, placed_data}
use Rattle.cargo_lock_merge_core.specs.Placed.{PlacedData}

-- the package of this side is chosen of the row, or none is
abbrev pub IsChoiceOf : Lockfiles → Row → Option Side → Type 0
IsChoiceOf all r side = IsChoice all (data_if r.base) (data_if r.ours) (data_if r.theirs) side

-- the dependencies of the row's packages are in order
pub record IsRowInOrder (r : Row) : Type 0 where
  pub base : HasAscending (data_if r.base)
  pub ours : HasAscending (data_if r.ours)
  pub theirs : HasAscending (data_if r.theirs)

-- the chosen package with its checksum, and the side whose replacement it has
pub record HasValues (r : Row) (c : Chosen) : Type 0 where
  pub checksum : IsChecksumChoice (data_if r.base) (data_if r.ours) (data_if r.theirs)
      (placed_data c.«package») (option_map (option_map digest_of) c.checksum)
  pub replacement : IsReplacementChoice (data_if r.base) (data_if r.ours) (data_if r.theirs)
      (placed_data c.«package») c.replacement

-- the package is chosen of the row, or none is
abbrev pub IsChosenOf : Lockfiles → Row → PlacedData ℕ → Type 0
IsChosenOf all r x = IsChosen all (data_if r.base) (data_if r.ours) (data_if r.theirs) x

-- what is chosen of the row, if anything is
abbrev pub IsSettled : Lockfiles → Row → Option Chosen → Type 0
IsSettled all r None = (x : PlacedData ℕ) → ¬ IsChosenOf all r x
IsSettled all r (Some c) = IsChosenOf all r (placed_data c.«package») × HasValues r c

-- the chosen package depends on the place d; or where none is chosen that of a side does
abbrev pub IsDependencyIf : Row → Option Chosen → ℕ → Type 0
IsDependencyIf r None d = DependsOn (data_if r.ours) d ⊎ DependsOn (data_if r.theirs) d
IsDependencyIf r (Some c) d = IsDependencyOf (data_if r.base) (data_if r.ours) (data_if r.theirs)
    (placed_data c.«package») d

-- the replacement of the chosen package is at the place d
abbrev pub IsReplacementIf : Row → Option Chosen → ℕ → Type 0
IsReplacementIf r None d = ⊥
IsReplacementIf r (Some c) d = IsReplacement (data_if r.base) (data_if r.ours) (data_if r.theirs)
    (placed_data c.«package») (Some d)

-- the entry has what a merge has at the place of its row
pub record IsMergeEntry (all : Lockfiles) (e : Entry) : Type 0 where
  pub settled : IsSettled all e.row e.chosen
  pub ascending : IsStrictlyIncreasing e.dependencies.items
  pub dependencies : (d : ℕ) → Contains e.dependencies.items d ↔ IsDependencyIf e.row e.chosen d
  pub targets : (d : ℕ) → Contains e.targets.items d
      ↔ (IsDependencyIf e.row e.chosen d ⊎ IsReplacementIf e.row e.chosen d)
