-- What keeps a table from being read as a lockfile, in JSON: the document that `check --json`
-- prints.
use Rattle.std.specs.Prelude.{◌-◌, ℕ, List, None, Option, codes, map}
use Rattle.json.specs.Json.{Json, null, string, object, member, no_members}
use Rattle.cargo_lock_display.specs.File.{FileData, list_document}
use Rattle.cargo_lock_display.specs.PackageJson.{identity_json}
use Rattle.cargo_lock_location.specs.Lines.{LinesData, line_number_at}
use Rattle.cargo_lock_location.specs.Located.{line_or_null}
use Rattle.cargo_lock_references.specs.Records.{EncodedPackage, encoded_identity}
use Rattle.cargo_lock_table_flaws.specs.declared.finding.Place.{Place}
use Rattle.cargo_lock_table_flaws.specs.declared.finding.Place.TheVariants.{Listed, Root, Unused}
use Rattle.cargo_lock_table_flaws.specs.Finding.{TableFindingData, Unread, Unresolved}
use Rattle.cargo_lock_table_flaws.specs.Finding.{table_finding_line}

-- the kind of a finding
abbrev pub table_finding_kind : TableFindingData → List ℕ
table_finding_kind (Unread owner key written) = codes "unread"
table_finding_kind (Unresolved place p f role) = codes "reference"

-- where the table of the package of a finding is
abbrev pub place_of : TableFindingData → Place
place_of (Unread owner key written) = owner.place
place_of (Unresolved place p f role) = place

-- the number of the line of the package at a place, where it is known: a root and an unused patch have
-- none
abbrev pub line_at_place : List (Option ℕ) → Place → Option ℕ
line_at_place lines (Listed number) = line_number_at lines (number - 1)
line_at_place lines Root = None
line_at_place lines (Unused number) = None

-- the number of the line of a finding, where it is known
abbrev pub line_of_table_finding : LinesData → TableFindingData → Option ℕ
line_of_table_finding lines f = line_at_place lines.lines (place_of f)

-- the JSON of a package as its table has it
abbrev pub encoded_json : EncodedPackage → Json
encoded_json p = identity_json (encoded_identity p) p.checksum

-- the package of a reference, or null
abbrev pub finding_package_json : TableFindingData → Json
finding_package_json (Unread owner key written) = null
finding_package_json (Unresolved place p f role) = encoded_json p

-- the JSON of a finding at a line
unfoldable pub table_finding_json : Option ℕ → TableFindingData → Json
table_finding_json line f = object
    (member (codes "kind") (string (table_finding_kind f))
    (member (codes "message") (string (table_finding_line f))
    (member (codes "line") (line_or_null line)
    (member (codes "package") (finding_package_json f)
    (member (codes "other") null no_members)))))

-- the JSON of a finding, by the lines of the packages
abbrev pub located_table_finding_json : LinesData → TableFindingData → Json
located_table_finding_json lines f = table_finding_json (line_of_table_finding lines f) f

-- the findings of a table, each once and in order, by the lines of its packages
unfoldable pub table_findings_json : FileData → LinesData → List TableFindingData → Json
table_findings_json file lines findings = list_document (codes "cargo-lock-check/1") file
    (codes "findings") (map (located_table_finding_json lines) findings)
