-- What is found of archives, in JSON: the document that `verify --cache --json` prints.
use Rattle.std.specs.Prelude.{ℕ, List, Option, None, Some, codes, map}
use Rattle.json.specs.Json.{Json}
use Rattle.cargo_lock_parts.specs.Identity.{PackageData}
use Rattle.cargo_lock_verify.specs.Archives.{ArchiveFindingData, Changed, Missing, NoChecksum}
use Rattle.cargo_lock_verify.specs.Lines.{archive_finding_line}
use Rattle.cargo_lock_display.specs.File.{FileData}
use Rattle.cargo_lock_location.specs.Lines.{LinesData, line_of_package}
use Rattle.cargo_lock_verify.specs.Document.{FoundData, compared_json, found_json}
use Rattle.cargo_lock_verify.specs.declared.class.Counts.{Counts}
use Rattle.cargo_lock_verify.specs.declared.document.Compared.TheVariants.{Archives}

-- the kind of a finding
abbrev pub archive_finding_kind : ArchiveFindingData → List ℕ
archive_finding_kind (Changed p a) = codes "changed"
archive_finding_kind (Missing p) = codes "missing"
archive_finding_kind (NoChecksum p) = codes "no-checksum"

-- the package of a finding
abbrev pub archive_finding_package : ArchiveFindingData → PackageData
archive_finding_package (Changed p a) = p
archive_finding_package (Missing p) = p
archive_finding_package (NoChecksum p) = p

-- the path of the archive
abbrev pub archive_finding_path : ArchiveFindingData → Option (List ℕ)
archive_finding_path (Changed p a) = Some a.path
archive_finding_path (Missing p) = None
archive_finding_path (NoChecksum p) = None

-- the digest of the archive
abbrev pub archive_finding_digest : ArchiveFindingData → Option (List ℕ)
archive_finding_digest (Changed p a) = Some a.digest
archive_finding_digest (Missing p) = None
archive_finding_digest (NoChecksum p) = None

-- the digest that was expected: that of the archive in the lockfile
abbrev pub archive_finding_expected : ArchiveFindingData → Option (List ℕ)
archive_finding_expected (Changed p a) = p.checksum
archive_finding_expected (Missing p) = p.checksum
archive_finding_expected (NoChecksum p) = None

-- the number of the line of the package of a finding, where it is known
abbrev pub archive_finding_line_in : LinesData → ArchiveFindingData → Option ℕ
archive_finding_line_in lines f = line_of_package lines (archive_finding_package f)

-- what the document says of a finding at a line
abbrev pub said_of_archive_finding : Option ℕ → ArchiveFindingData → FoundData
said_of_archive_finding line f = record {
  kind = archive_finding_kind f;
  message = archive_finding_line f;
  line = line;
  content = Some (archive_finding_package f);
  path = archive_finding_path f;
  digest = archive_finding_digest f;
  expected = archive_finding_expected f;
}

-- the JSON of a finding at a line
abbrev pub archive_finding_json : Option ℕ → ArchiveFindingData → Json
archive_finding_json line f = found_json (said_of_archive_finding line f)

-- the JSON of a finding, by the lines of the packages
abbrev pub lined_archive_json : LinesData → ArchiveFindingData → Json
lined_archive_json lines f = archive_finding_json (archive_finding_line_in lines f) f

-- how many packages are in each class and archives are passed over, and the findings, each once and
-- in order, by the lines of the packages
abbrev pub archives_json : FileData → LinesData → Counts → ℕ → List ArchiveFindingData → Json
archives_json file lines counts others findings =
    compared_json (Archives others) file counts (map (lined_archive_json lines) findings)
