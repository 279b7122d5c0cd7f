-- What `diff` prints, and its status.
use Rattle.std.specs.Prelude.{◌≡◌, ◌≢◌, ℕ, List, [], ◌∷◌, ◌++◌, Option, true, false}
use Rattle.std.specs.Prelude.{Some, codes, map, option_map, unwrap_or}
use Rattle.std.specs.List.{AllZip}
use Rattle.clap.specs.Matches.{matched_of, raw_values}
use Rattle.clap.specs.declared.parser.matches.Found.{Found}
use Rattle.cargo_lock_parts.specs.Error.{IsShort}
use Rattle.cargo_lock_parts.specs.Ascii.{newline}
use Rattle.cargo_lock_diff.specs.declared.accepted.Accepted.{Accepted}
use Rattle.cargo_lock_diff.specs.Accepted.{accepted_by}
use Rattle.cargo_lock_diff.specs.declared.commits.Commits.{Commits}
use Rattle.cargo_lock_diff.specs.declared.commits.Commits.TheVariants.{Short, Full}
use Rattle.cargo_lock_diff.specs.Change.{ChangeData, changes_by, all_changes_of}
use Rattle.cargo_lock_diff.specs.Difference.{DifferenceData, HasNoAlarms, IsDifferenceBut}
use Rattle.cargo_lock_diff.specs.Summary.{summary_of, summary_text}
use Rattle.cargo_lock_encoding.specs.Lockfiles.{LockfileData}
use Rattle.cargo_lock_diff.specs.Document.{difference_json}
use Rattle.cargo_lock_display.specs.File.{FileData}
use Rattle.cargo_lock_location.specs.Lines.{LinesData}
use Rattle.cli_input.specs.Json.{IsAsked, IsUnasked, PrintsAnswer, named_file_of}
use Rattle.cli_input.specs.Load.{IsMeantWithCargoChecksums, MeansWithCargoChecksums}
use Rattle.cli_input.specs.Told.{lines_in_text}
use Rattle.cli_lockfile_commands.specs.declared.diff.Sides.{Sides}

-- the words that are given for the option of this name, in their order
abbrev pub given_words : Found → List ℕ → List (List ℕ)
given_words found name = unwrap_or (option_map raw_values (matched_of found name)) []

-- a word of less than 256 MiB names this source
abbrev pub IsAcceptedBy : List ℕ → Accepted → Type 0
IsAcceptedBy word accepted = IsShort word → accepted_by word ≡ Some accepted

-- these are the changes that are printed of a difference: with dependencies if the arguments ask
-- for them
pub record IsTold (found : Found) (d : DifferenceData) (told : List ChangeData) : Type 0 where
  pub asked : IsAsked found (codes "dependencies") → told ≡ all_changes_of true d
  pub unasked : IsUnasked found (codes "dependencies") → told ≡ all_changes_of false d

-- commits are printed in full if the arguments ask for that
pub record AreCommitsAsked (found : Found) (commits : Commits) : Type 0 where
  pub asked : IsAsked found (codes "full") → commits ≡ Full
  pub unasked : IsUnasked found (codes "full") → commits ≡ Short

-- The status is a failure if there is an alarm, and, if the arguments ask for that, if any change
-- is printed. Otherwise it is a success.
pub record IsStatus (found : Found) (d : DifferenceData) (told : List ChangeData)
    (failure success : Type 0) : Type 0 where
  pub alarm : ¬ HasNoAlarms d → failure
  pub asked : IsAsked found (codes "exit-code") → told ≢ [] → failure
  pub unasked : HasNoAlarms d → IsUnasked found (codes "exit-code") → success
  pub empty : HasNoAlarms d → told ≡ [] → success

-- the last line, if any change is printed: how many changes of each kind there are
abbrev pub last_line : List ChangeData → List ℕ
last_line [] = []
last_line (change ∷ changes) =
    summary_text (summary_of (change ∷ changes)) ++ newline ∷ []

-- the line of each change, and the last line
abbrev pub told_text : Commits → List ChangeData → List ℕ
told_text commits told = changes_by commits told ++ last_line told

-- the lockfiles that are compared, as a document has them, and the packages of the new one with the
-- lines of its text in which they begin
pub record SidesData : Type 0 where
  pub before : FileData
  pub after : FileData
  pub lines : LinesData

-- the data of the lockfiles of the program
abbrev pub sides_of : Sides → SidesData
sides_of s = record {
  before = s.before.now;
  after = s.after.now;
  lines = lines_in_text s.text.now s.packages.now;
}

-- the text is that of the changes of a difference, and the status is that of both
abbrev pub PrintsChanges : Found → SidesData → DifferenceData → Option (List ℕ)
    → Option (List ℕ) → Type 0 → Type 0 → Type 0
PrintsChanges found s d old new failure success = (told : List ChangeData)
    × (commits : Commits) × IsTold found d told × AreCommitsAsked found commits
    × PrintsAnswer found (difference_json s.before s.after s.lines told)
    (told_text commits told) old new
    × IsStatus found d told failure success

-- two lockfiles, of which the new one has this text, as they are compared
abbrev pub sides_after : Found → FileData → List ℕ → LockfileData → SidesData
sides_after found before text after = record {
  before = before;
  after = named_file_of found (codes "new") after;
  lines = lines_in_text text after.packages;
}

abbrev pub sides_in : Found → LockfileData → List ℕ → LockfileData → SidesData
sides_in found before = sides_after found (named_file_of found (codes "old") before)

-- the same for the difference of the packages of two lockfiles, where these sources are accepted
abbrev pub PrintsDifferenceOf : Found → List Accepted → LockfileData → List ℕ → LockfileData
    → Option (List ℕ) → Option (List ℕ) → Type 0 → Type 0 → Type 0
PrintsDifferenceOf found accepted before text after old new failure success = (d : DifferenceData)
    × IsDifferenceBut accepted before.packages after.packages d
    × PrintsChanges found (sides_in found before text after) d old new failure success

-- the same for some new lockfile
abbrev pub PrintsDifferenceFrom : Found → List Accepted → LockfileData → Option (List ℕ)
    → Option (List ℕ) → Type 0 → Type 0 → Type 0
PrintsDifferenceFrom found accepted before old new failure success = (after : LockfileData)
    × (text : List ℕ) × MeansWithCargoChecksums text after
    × PrintsDifferenceOf found accepted before text after old new failure success

-- the same for two such lockfiles, and the sources that the words of `--moved-ok` name
abbrev pub PrintsDifference : Found → Option (List ℕ) → Option (List ℕ) → Type 0 → Type 0 → Type 0
PrintsDifference found old new failure success = (before after : LockfileData) × (text : List ℕ)
    × (accepted : List Accepted)
    × IsMeantWithCargoChecksums before × MeansWithCargoChecksums text after
    × AllZip IsAcceptedBy (given_words found (codes "moved-ok")) accepted
    × PrintsDifferenceOf found accepted before text after old new failure success
