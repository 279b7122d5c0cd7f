-- What is reported of folders.
use Rattle.std.specs.Prelude.{◌++◌, [], ◌∷◌, ℕ, List}
use Rattle.cargo_lock_parts.specs.Ascii.{newline}
use Rattle.cargo_lock_verify.specs.declared.class.Counts.{Counts}
use Rattle.cargo_lock_verify.specs.declared.entry.Others.{Others}
use Rattle.cargo_lock_verify.specs.Entries.{EntryData, entry_findings}
use Rattle.cargo_lock_verify.specs.Summary.{folder_summary}
use Rattle.cargo_lock_verify.specs.Vendored.{FolderFindingData, VendoredData, folder_findings}
use Rattle.cargo_lock_verify.specs.VendoredLines.{folder_findings_text}

-- what is reported: what is found of packages, and behind it what is found of entries
abbrev pub vendor_findings : Others → List VendoredData → List EntryData → List FolderFindingData
vendor_findings who all entries = folder_findings all ++ entry_findings who all entries

-- the line of each finding, and how many packages are in each class
abbrev pub folder_report_text : List FolderFindingData → Counts → List ℕ
folder_report_text found counts =
    folder_findings_text found ++ (folder_summary counts ++ newline ∷ [])
