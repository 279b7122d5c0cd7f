-- A difference in JSON: the document that `diff --json` prints.
use Rattle.std.specs.Prelude.{ℕ, ◌==◌, Bool, true, false, List, [], codes, decimal, map, not}
use Rattle.std.specs.Prelude.{Option, None, Some, if◌then◌else◌}
use Rattle.json.specs.Json.{Json, array, boolean, number, string, object, member, no_members}
use Rattle.cargo_lock_parts.specs.Identity.{Identity, PackageData}
use Rattle.cargo_lock_diff.specs.Change.{ChangeData, Alarm, NewSource, NewSourceUpdate, Moved}
use Rattle.cargo_lock_diff.specs.Change.{Checksum, Replaced, Updated}
use Rattle.cargo_lock_diff.specs.Change.{Removed, Added, OtherDependencies, change_of, is_downgrade}
use Rattle.cargo_lock_diff.specs.declared.change.Change.{Change}
use Rattle.cargo_lock_diff.specs.Summary.{summary_of}
use Rattle.cargo_lock_diff.specs.declared.summary.Summary.{Summary}
use Rattle.cargo_lock_display.specs.File.{FileData, file_json}
use Rattle.cargo_lock_display.specs.PackageJson.{dependency_json, package_or_null}
use Rattle.cargo_lock_location.specs.Lines.{LinesData, line_of_some}
use Rattle.cargo_lock_location.specs.Located.{line_or_null}
use Rattle.cargo_lock_location.specs.declared.located.Located.{Located}
use Rattle.printing.specs.Json.{items_of}

-- ---- changes

-- the kind of another version
abbrev pub update_kind_text : PackageData → PackageData → List ℕ
update_kind_text old new = if is_downgrade old new then codes "downgraded" else codes "updated"

-- the kind of a change; an alarm is about a checksum or a source, or about an update
abbrev pub change_kind_text : ChangeData → List ℕ
change_kind_text (Alarm old new) = codes "checksum"
change_kind_text (NewSource old new) = codes "source"
change_kind_text (NewSourceUpdate old new) = update_kind_text old new
change_kind_text (Moved old new) = codes "source"
change_kind_text (Checksum old new) = codes "checksum"
change_kind_text (Replaced old new) = codes "replacement"
change_kind_text (Updated old new) = update_kind_text old new
change_kind_text (Removed old) = codes "removed"
change_kind_text (Added new) = codes "added"
change_kind_text (OtherDependencies old new gone came) = codes "dependencies"

-- the change is an alarm
abbrev pub is_alarm_change : ChangeData → Bool
is_alarm_change (Alarm old new) = true
is_alarm_change (NewSource old new) = true
is_alarm_change (NewSourceUpdate old new) = true
is_alarm_change other = false

-- the old package of a change, none if a package was added
abbrev pub old_of : ChangeData → Option PackageData
old_of (Alarm old new) = Some old
old_of (NewSource old new) = Some old
old_of (NewSourceUpdate old new) = Some old
old_of (Moved old new) = Some old
old_of (Checksum old new) = Some old
old_of (Replaced old new) = Some old
old_of (Updated old new) = Some old
old_of (Removed old) = Some old
old_of (Added new) = None
old_of (OtherDependencies old new gone came) = Some old

-- the new package of a change, none if a package was removed
abbrev pub new_of : ChangeData → Option PackageData
new_of (Alarm old new) = Some new
new_of (NewSource old new) = Some new
new_of (NewSourceUpdate old new) = Some new
new_of (Moved old new) = Some new
new_of (Checksum old new) = Some new
new_of (Replaced old new) = Some new
new_of (Updated old new) = Some new
new_of (Removed old) = None
new_of (Added new) = Some new
new_of (OtherDependencies old new gone came) = Some new

-- the dependencies that only the old package has, if the change is one of dependencies
abbrev pub removed_of : ChangeData → List Identity
removed_of (OtherDependencies old new gone came) = gone
removed_of other = []

-- the dependencies that only the new package has, if the change is one of dependencies
abbrev pub added_of : ChangeData → List Identity
added_of (OtherDependencies old new gone came) = came
added_of other = []

-- the array of the dependencies
abbrev pub dependencies_json : List Identity → Json
dependencies_json ds = array (items_of (map dependency_json ds))

-- the number of the line of the new package of a change in the new lockfile, where there is one and
-- it is known
abbrev pub change_line_in : LinesData → ChangeData → Option ℕ
change_line_in lines c = line_of_some lines (new_of c)

-- the JSON of a change at a line of the new lockfile
unfoldable pub change_json : Option ℕ → ChangeData → Json
change_json line c = object
    (member (codes "kind") (string (change_kind_text c))
    (member (codes "alarm") (boolean (is_alarm_change c))
    (member (codes "line") (line_or_null line)
    (member (codes "old") (package_or_null (old_of c))
    (member (codes "new") (package_or_null (new_of c))
    (member (codes "removed") (dependencies_json (removed_of c))
    (member (codes "added") (dependencies_json (added_of c)) no_members)))))))

-- the JSON of a change of the program at its line
abbrev pub located_change_json : Located Change → Json
located_change_json l = change_json l.line (change_of l.found.now)

-- the JSON of a change, by the lines of the new lockfile
abbrev pub lined_change_json : LinesData → ChangeData → Json
lined_change_json lines c = change_json (change_line_in lines c) c

-- ---- the document

-- the JSON of a count
abbrev pub count_json : ℕ → Json
count_json n = number (decimal n)

-- how many changes of each kind there are, as the last line of `diff` has it
unfoldable pub counts_json : Summary → Json
counts_json s = object
    (member (codes "alarm") (count_json s.alarms)
    (member (codes "source") (count_json s.sources)
    (member (codes "checksum") (count_json s.checksums)
    (member (codes "replacement") (count_json s.replacements)
    (member (codes "updated") (count_json s.updated)
    (member (codes "downgraded") (count_json s.downgraded)
    (member (codes "removed") (count_json s.removed)
    (member (codes "added") (count_json s.added)
    (member (codes "dependencies") (count_json s.dependencies) no_members)))))))))

-- the document of two lockfiles, of how many changes of each kind there are, and of the changes, as
-- they are in JSON
unfoldable pub difference_document : FileData → FileData → Summary → List Json → Json
difference_document old new summary changes = object
    (member (codes "schema") (string (codes "cargo-lock-diff/1"))
    (member (codes "old") (file_json old)
    (member (codes "new") (file_json new)
    (member (codes "alarm") (boolean (not (summary.alarms == 0)))
    (member (codes "counts") (counts_json summary)
    (member (codes "changes") (array (items_of changes)) no_members))))))

-- the changes between two lockfiles, each once and in order, by the lines of the new one
abbrev pub difference_json : FileData → FileData → LinesData → List ChangeData → Json
difference_json old new lines changes =
    difference_document old new (summary_of changes) (map (lined_change_json lines) changes)
