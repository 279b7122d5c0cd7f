-- What is found of folders, in JSON: the document that `verify --vendor --json` prints.
use Rattle.std.specs.Prelude.{◌++◌, ℕ, List, Option, None, Some, codes, map, option_map}
use Rattle.std.specs.Prelude.{string_bytes}
use Rattle.json.specs.Json.{Json}
use Rattle.cargo_lock_parts.specs.Checksum.{digest_of}
use Rattle.cargo_lock_parts.specs.Identity.{PackageData}
use Rattle.cargo_lock_verify.specs.declared.folder.Folder.{Folder}
use Rattle.cargo_lock_verify.specs.declared.entry.Flaw.{Flaw}
use Rattle.cargo_lock_verify.specs.declared.entry.Flaw.TheVariants as flaw
use Rattle.cargo_lock_verify.specs.Vendored.{FolderFindingData, Absent, Link, NoChecksum, NoFolder}
use Rattle.cargo_lock_verify.specs.Vendored.{OfEntry, OtherArchive, OtherFile, Unlisted, digest_at}
use Rattle.cargo_lock_verify.specs.VendoredLines.{folder_finding_line}
use Rattle.cargo_lock_display.specs.File.{FileData}
use Rattle.cargo_lock_location.specs.Lines.{LinesData, line_of_some}
use Rattle.cargo_lock_verify.specs.Document.{FoundData, compared_json, found_json}
use Rattle.cargo_lock_verify.specs.declared.class.Counts.{Counts}
use Rattle.cargo_lock_verify.specs.declared.document.Compared.TheVariants.{Folders}

-- the kind of the finding of an entry
abbrev pub flaw_kind : Flaw → List ℕ
flaw_kind flaw.Link = codes "linked-entry"
flaw_kind flaw.LinkedManifest = codes "linked-manifest"
flaw_kind flaw.Nameless = codes "nameless-entry"
flaw_kind flaw.OfNoPackage = codes "other-package"

-- the kind of a finding
abbrev pub folder_finding_kind : FolderFindingData → List ℕ
folder_finding_kind (NoFolder p) = codes "no-folder"
folder_finding_kind (OtherArchive p f) = codes "other-archive"
folder_finding_kind (Absent p f path) = codes "missing-file"
folder_finding_kind (OtherFile p f path digest listed) = codes "changed-file"
folder_finding_kind (Unlisted p f path) = codes "unlisted-file"
folder_finding_kind (Link p f path) = codes "link"
folder_finding_kind (NoChecksum p) = codes "no-checksum"
folder_finding_kind (OfEntry path f) = flaw_kind f

-- the package of a finding, which an entry has not
abbrev pub folder_finding_package : FolderFindingData → Option PackageData
folder_finding_package (NoFolder p) = Some p
folder_finding_package (OtherArchive p f) = Some p
folder_finding_package (Absent p f path) = Some p
folder_finding_package (OtherFile p f path digest listed) = Some p
folder_finding_package (Unlisted p f path) = Some p
folder_finding_package (Link p f path) = Some p
folder_finding_package (NoChecksum p) = Some p
folder_finding_package (OfEntry path f) = None

-- the path of a file in a folder
abbrev pub file_path : Folder → List ℕ → List ℕ
file_path f path = string_bytes f.path ++ (codes "/" ++ path)

-- the path of the folder, of the file or the link in it, or of the entry
abbrev pub folder_finding_path : FolderFindingData → Option (List ℕ)
folder_finding_path (NoFolder p) = None
folder_finding_path (OtherArchive p f) = Some (string_bytes f.path)
folder_finding_path (Absent p f path) = Some (file_path f path)
folder_finding_path (OtherFile p f path digest listed) = Some (file_path f path)
folder_finding_path (Unlisted p f path) = Some (file_path f path)
folder_finding_path (Link p f path) = Some (file_path f path)
folder_finding_path (NoChecksum p) = None
folder_finding_path (OfEntry path f) = Some path

-- the digest that was found: that of the archive in the list, or that of the file
abbrev pub folder_finding_digest : FolderFindingData → Option (List ℕ)
folder_finding_digest (NoFolder p) = None
folder_finding_digest (OtherArchive p f) = option_map digest_of f.archive
folder_finding_digest (Absent p f path) = None
folder_finding_digest (OtherFile p f path digest listed) = Some digest
folder_finding_digest (Unlisted p f path) = digest_at f.files path
folder_finding_digest (Link p f path) = None
folder_finding_digest (NoChecksum p) = None
folder_finding_digest (OfEntry path f) = None

-- the digest that was expected: that of the archive in the lockfile, or of the file in the list
abbrev pub folder_finding_expected : FolderFindingData → Option (List ℕ)
folder_finding_expected (NoFolder p) = p.checksum
folder_finding_expected (OtherArchive p f) = p.checksum
folder_finding_expected (Absent p f path) = digest_at f.listed path
folder_finding_expected (OtherFile p f path digest listed) = Some listed
folder_finding_expected (Unlisted p f path) = None
folder_finding_expected (Link p f path) = None
folder_finding_expected (NoChecksum p) = None
folder_finding_expected (OfEntry path f) = None

-- the number of the line of the package of a finding, where it has one and it is known
abbrev pub folder_finding_line_in : LinesData → FolderFindingData → Option ℕ
folder_finding_line_in lines f = line_of_some lines (folder_finding_package f)

-- what the document says of a finding at a line
abbrev pub said_of_folder_finding : Option ℕ → FolderFindingData → FoundData
said_of_folder_finding line f = record {
  kind = folder_finding_kind f;
  message = folder_finding_line f;
  line = line;
  content = folder_finding_package f;
  path = folder_finding_path f;
  digest = folder_finding_digest f;
  expected = folder_finding_expected f;
}

-- the JSON of a finding at a line
abbrev pub folder_finding_json : Option ℕ → FolderFindingData → Json
folder_finding_json line f = found_json (said_of_folder_finding line f)

-- the JSON of a finding, by the lines of the packages
abbrev pub lined_folder_json : LinesData → FolderFindingData → Json
lined_folder_json lines f = folder_finding_json (folder_finding_line_in lines f) f

-- how many packages are in each class, and the findings, each once and in order, by the lines of the
-- packages
abbrev pub folders_json : FileData → LinesData → Counts → List FolderFindingData → Json
folders_json file lines counts findings =
    compared_json Folders file counts (map (lined_folder_json lines) findings)
