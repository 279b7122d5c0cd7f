-- The line of what is found of a folder.
use Rattle.std.specs.Prelude.{◌≡◌, ◌++◌, [], ◌∷◌, ℕ, List, codes, map, option_map, string_bytes}
use Rattle.std.specs.List.{flat_map}
use Rattle.std.specs.Str.Lines.{lines}
use Rattle.printing.specs.Shown.{shown}
use Rattle.printing.specs.declared.form.Form.TheVariants.{Plain, Quoted}
use Rattle.cargo_lock_parts.specs.Ascii.{newline}
use Rattle.cargo_lock_parts.specs.Checksum.{digest_of, digest_text}
use Rattle.cargo_lock_parts.specs.Identity.{PackageData}
use Rattle.cargo_lock_display.specs.Line.{checksum_text, package_text}
use Rattle.cargo_lock_verify.specs.declared.entry.Flaw.{Flaw}
use Rattle.cargo_lock_verify.specs.declared.entry.Flaw.TheVariants as flaw
use Rattle.cargo_lock_verify.specs.declared.folder.Folder.{Folder}
use Rattle.cargo_lock_verify.specs.Lines.{unchecked_line}
use Rattle.cargo_lock_verify.specs.Vendored.{FolderFindingData, Absent, Link, NoChecksum, NoFolder}
use Rattle.cargo_lock_verify.specs.Vendored.{OfEntry, OtherArchive, OtherFile, Unlisted}

-- a package, and the path of a file in its folder
abbrev pub file_text : PackageData → Folder → List ℕ → List ℕ
file_text p f path = package_text p ++ (codes ": `" ++ (shown Quoted (string_bytes f.path)
    ++ (codes "/" ++ (shown Quoted path ++ codes "`"))))

-- the line of a folder whose list has another digest of the archive than the lockfile
abbrev pub other_archive_line : PackageData → Folder → List ℕ
other_archive_line p f = codes "! " ++ (package_text p ++ (codes ": `"
    ++ (shown Quoted (string_bytes f.path) ++ (codes "` has the archive "
    ++ (checksum_text (option_map digest_of f.archive) ++ (codes ", not "
    ++ checksum_text p.checksum))))))

-- the line of a file that has another digest, the first one, than the list says
abbrev pub other_file_line : PackageData → Folder → List ℕ → List ℕ → List ℕ → List ℕ
other_file_line p f path digest listed = codes "! " ++ (file_text p f path ++ (codes " is "
    ++ (shown Plain (digest_text digest) ++ (codes ", not " ++ shown Plain (digest_text listed)))))

-- the line of an entry
abbrev pub entry_line : List ℕ → Flaw → List ℕ
entry_line path flaw.Link = codes "! `" ++ (shown Quoted path ++ codes "`: a link")
entry_line path flaw.LinkedManifest =
    codes "! `" ++ (shown Quoted path ++ codes "`: its manifest is a link")
entry_line path flaw.Nameless =
    codes "! `" ++ (shown Quoted path ++ codes "`: no name and version")
entry_line path flaw.OfNoPackage = codes "+ `" ++ (shown Quoted path ++ codes "`: of no package")

-- the line of a finding
abbrev pub folder_finding_line : FolderFindingData → List ℕ
folder_finding_line (NoFolder p) = codes "- " ++ (package_text p ++ codes ": no folder")
folder_finding_line (OtherArchive p f) = other_archive_line p f
folder_finding_line (Absent p f path) = codes "- " ++ (file_text p f path ++ codes " is missing")
folder_finding_line (OtherFile p f path digest listed) = other_file_line p f path digest listed
folder_finding_line (Unlisted p f path) =
    codes "+ " ++ (file_text p f path ++ codes " is not in the list")
folder_finding_line (Link p f path) = codes "! " ++ (file_text p f path ++ codes " is a link")
folder_finding_line (NoChecksum p) = unchecked_line p
folder_finding_line (OfEntry path f) = entry_line path f

-- the line of each finding, with its newline
abbrev pub folder_findings_text : List FolderFindingData → List ℕ
folder_findings_text = flat_map (λ x. folder_finding_line x ++ newline ∷ [])

-- each finding is exactly one line, whatever names, versions, sources and paths hold
abbrev pub EachFolderFindingIsOneLine : Type 0
EachFolderFindingIsOneLine = (found : List FolderFindingData)
    → lines (folder_findings_text found) ≡ map folder_finding_line found
