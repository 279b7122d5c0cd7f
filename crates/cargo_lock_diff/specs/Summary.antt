-- How many changes of each kind a difference has, and the last line, which says so.
use Rattle.std.specs.Prelude.{◌≡◌, ℕ, ◌-◌, ◌==◌, ◌||◌, Bool, true, false, not, List, [], ◌∷◌, ◌++◌}
use Rattle.std.specs.Prelude.{codes, decimal, is_some, map}
use Rattle.std.specs.Str.Lines.{lines}
use Rattle.cargo_lock_parts.specs.Ascii.{newline}
use Rattle.std.specs.Prelude.{count_by, if◌then◌else◌}
use Rattle.cargo_lock_diff.specs.declared.summary.Kind.{Kind}
use Rattle.cargo_lock_diff.specs.declared.summary.Kind.TheVariants as kind
use Rattle.cargo_lock_diff.specs.declared.summary.Summary.{Summary}
use Rattle.cargo_lock_diff.specs.Change.{ChangeData, Alarm, NewSource, NewSourceUpdate, Moved}
use Rattle.cargo_lock_diff.specs.Change.{Checksum, Replaced, Updated}
use Rattle.cargo_lock_diff.specs.Change.{Removed, Added, OtherDependencies, is_downgrade, change_line_by}
use Rattle.cargo_lock_diff.specs.Change.{changes_by}
use Rattle.cargo_lock_diff.specs.declared.commits.Commits.{Commits}

-- the change is another version: one that is less than the old one, or one that is not
abbrev pub is_update : Bool → ChangeData → Bool
is_update downgrade (Updated old new) =
    if downgrade then is_downgrade old new else not (is_downgrade old new)
is_update downgrade other = false

-- the change is a checksum that is gone
abbrev pub is_lost : ChangeData → Bool
is_lost (Checksum old new) = is_some old.checksum
is_lost other = false

-- the change is of the kind
abbrev pub is_of_kind : Kind → ChangeData → Bool
is_of_kind kind.Alarm (Alarm old new) = true
is_of_kind kind.Alarm (NewSource old new) = true
is_of_kind kind.Alarm (NewSourceUpdate old new) = true
is_of_kind kind.Alarm other = false
is_of_kind kind.Source (Moved old new) = true
is_of_kind kind.Source other = false
is_of_kind kind.Checksum (Checksum old new) = true
is_of_kind kind.Checksum other = false
is_of_kind kind.LostChecksum change = is_lost change
is_of_kind kind.Replacement (Replaced old new) = true
is_of_kind kind.Replacement other = false
is_of_kind kind.Updated change = is_update false change
is_of_kind kind.Downgraded change = is_update true change
is_of_kind kind.Removed (Removed old) = true
is_of_kind kind.Removed other = false
is_of_kind kind.Added (Added new) = true
is_of_kind kind.Added other = false
is_of_kind kind.Dependencies (OtherDependencies old new gone came) = true
is_of_kind kind.Dependencies other = false

-- how many changes are of each kind
abbrev pub summary_of : List ChangeData → Summary
summary_of changes = record {
  alarms = count_by (is_of_kind kind.Alarm) changes;
  sources = count_by (is_of_kind kind.Source) changes;
  checksums = count_by (is_of_kind kind.Checksum) changes;
  lost_checksums = count_by (is_of_kind kind.LostChecksum) changes;
  replacements = count_by (is_of_kind kind.Replacement) changes;
  updated = count_by (is_of_kind kind.Updated) changes;
  downgraded = count_by (is_of_kind kind.Downgraded) changes;
  removed = count_by (is_of_kind kind.Removed) changes;
  added = count_by (is_of_kind kind.Added) changes;
  dependencies = count_by (is_of_kind kind.Dependencies) changes;
}

-- a count with its noun in the singular or the plural: nothing for zero, and a comma first if a
-- count precedes it
abbrev pub counted_behind : Bool → ℕ → List ℕ → List ℕ → List ℕ
counted_behind behind n one more = if n == 0 then [] else (if behind then codes ", " else [])
    ++ (decimal n ++ (codes " " ++ (if n == 1 then one else more)))

-- there is a count before, or this one is not zero
abbrev pub is_behind : Bool → ℕ → Bool
is_behind behind n = behind || not (n == 0)

-- the counts that are not zero
abbrev pub summary_text : Summary → List ℕ
summary_text s =
    let behind_1 = is_behind false s.updated in
    let behind_2 = is_behind behind_1 s.downgraded in
    let behind_3 = is_behind behind_2 s.removed in
    let behind_4 = is_behind behind_3 s.added in
    let behind_5 = is_behind behind_4 s.sources in
    let behind_6 = is_behind behind_5 (s.checksums - s.lost_checksums) in
    let behind_7 = is_behind behind_6 s.lost_checksums in
    let behind_8 = is_behind behind_7 s.replacements in
    let behind_9 = is_behind behind_8 s.dependencies in
    counted_behind false s.updated (codes "updated") (codes "updated")
    ++ (counted_behind behind_1 s.downgraded (codes "downgraded") (codes "downgraded")
    ++ (counted_behind behind_2 s.removed (codes "removed") (codes "removed")
    ++ (counted_behind behind_3 s.added (codes "added") (codes "added")
    ++ (counted_behind behind_4 s.sources (codes "moved") (codes "moved")
    ++ (counted_behind behind_5 (s.checksums - s.lost_checksums)
    (codes "new checksum") (codes "new checksums")
    ++ (counted_behind behind_6 s.lost_checksums (codes "lost checksum") (codes "lost checksums")
    ++ (counted_behind behind_7 s.replacements (codes "replacement") (codes "replacements")
    ++ (counted_behind behind_8 s.dependencies
    (codes "with other dependencies") (codes "with other dependencies")
    ++ counted_behind behind_9 s.alarms (codes "alarm") (codes "alarms")))))))))

-- ---- law

-- the lines of changes and the summary are exactly as many lines as changes, and one more
abbrev pub SummaryIsOneLine : Type 0
SummaryIsOneLine = (commits : Commits) (changes : List ChangeData) (s : Summary)
    → lines (changes_by commits changes ++ (summary_text s ++ newline ∷ []))
    ≡ map (change_line_by commits) changes ++ summary_text s ∷ []
