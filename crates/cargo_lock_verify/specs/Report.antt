-- What is reported of findings.
use Rattle.std.specs.Prelude.{◌++◌, [], ◌∷◌, ℕ, Bool, false, true, List, filter, if◌then◌else◌}
use Rattle.cargo_lock_parts.specs.Ascii.{newline}
use Rattle.cargo_lock_verify.specs.Archives.{ArchiveFindingData, Changed, Missing, NoChecksum}
use Rattle.cargo_lock_verify.specs.declared.class.Counts.{Counts}
use Rattle.cargo_lock_verify.specs.Lines.{archive_findings_text}
use Rattle.cargo_lock_verify.specs.Summary.{archive_summary}

-- the finding is of an archive: one is changed, or there is none
abbrev pub is_of_archive : ArchiveFindingData → Bool
is_of_archive (Changed p a) = true
is_of_archive (Missing p) = true
is_of_archive (NoChecksum p) = false

-- what is reported: all that is found, or only what is found of archives
abbrev pub reported : Bool → List ArchiveFindingData → List ArchiveFindingData
reported all found = if all then found else filter is_of_archive found

-- the line of each finding, and how many packages are in each class and archives are passed over
abbrev pub archive_report_text : List ArchiveFindingData → Counts → ℕ → List ℕ
archive_report_text found counts others =
    archive_findings_text found ++ (archive_summary counts others ++ newline ∷ [])
