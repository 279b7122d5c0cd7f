-- How many changes are reported there and back.
use Rattle.std.specs.Prelude.{◌≡◌, ◌+◌, ◌&&◌, ℕ, not, List, [], AllPairs, count_by, false, length}
use Rattle.std.specs.Prelude.{true}
use Rattle.std.specs.Str.Lines.{lines}
use Rattle.cargo_lock_parts.specs.Identity.{PackageData}
use Rattle.cargo_lock_diff.specs.declared.accepted.Accepted.{Accepted}
use Rattle.cargo_lock_diff.specs.declared.commits.Commits.{Commits}
use Rattle.cargo_lock_diff.specs.declared.likeness.Likeness.TheVariants.{Whole}
use Rattle.cargo_lock_diff.specs.Alarm.{is_altered, is_suspect}
use Rattle.cargo_lock_diff.specs.Change.{all_changes_of, changes_by, changes_of}
use Rattle.cargo_lock_diff.specs.Difference.{DifferenceData, IsDifferenceBut}
use Rattle.cargo_lock_diff.specs.Likeness.{is_alike}

-- how many lines report the changes of a difference
abbrev pub line_count : Commits → DifferenceData → ℕ
line_count commits d = length (lines (changes_by commits (changes_of d)))

-- How many alarms have a line beside those of the changes of their package: of a checksum that is
-- not that of the old package of the pair, or of an added package, and of an added package that
-- comes from a new source. The other alarms are in the place of a line.
abbrev pub alarms_beside : List PackageData → DifferenceData → ℕ
alarms_beside olds d = count_by (λ p. is_suspect olds p.1 && not (is_altered p.0 p.1)) d.pairs
    + (count_by (is_suspect olds) d.added + length d.came)

-- As many lines report the changes there and back, but for the alarms that have a line beside
-- others. So what a line reports there has a line back: another source, a checksum that came or
-- went, another replacement, another version, a package that was removed or added.
abbrev pub AsManyLinesThereAndBack : Type 0
AsManyLinesThereAndBack = (commits : Commits) (accepted accepted' : List Accepted)
    (olds news : List PackageData) (d back : DifferenceData)
    → IsDifferenceBut accepted olds news d → IsDifferenceBut accepted' news olds back
    → line_count commits d + alarms_beside news back
    ≡ line_count commits back + alarms_beside olds d

-- a list in which no two packages are wholly alike has no change to itself, dependencies included
abbrev pub NoneToItself : Type 0
NoneToItself = (accepted : List Accepted) (packages : List PackageData) (d : DifferenceData)
    → AllPairs (λ p q. is_alike Whole p q ≡ false) packages
    → IsDifferenceBut accepted packages packages d → all_changes_of true d ≡ []
