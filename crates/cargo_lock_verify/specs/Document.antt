-- Whether packages are verified, in JSON: the document that `verify --json` prints.
use Rattle.std.specs.Prelude.{ℕ, List, Option, codes, decimal, option_map}
use Rattle.json.specs.Json.{Json, array, null, number, string, object, member, no_members}
use Rattle.cargo_lock_parts.specs.Checksum.{digest_text}
use Rattle.cargo_lock_parts.specs.Identity.{PackageData}
use Rattle.cargo_lock_display.specs.File.{FileData, document_json}
use Rattle.cargo_lock_display.specs.PackageJson.{package_or_null}
use Rattle.cargo_lock_verify.specs.declared.class.Counts.{Counts}
use Rattle.cargo_lock_verify.specs.declared.document.Compared.{Compared}
use Rattle.cargo_lock_verify.specs.declared.document.Compared.TheVariants.{Archives, Folders}
use Rattle.cargo_lock_location.specs.Located.{line_or_null}
use Rattle.printing.specs.Value.{text_or_null}
use Rattle.printing.specs.Json.{items_of}

-- what the document says of a finding: its kind, its line, the number of the line of its package in
-- the lockfile, its package, the path of what it is about, the digest that was found, and the one that
-- was expected; there may be none of the last five
pub record FoundData : Type 0 where
  pub kind : List ℕ
  pub message : List ℕ
  pub line : Option ℕ
  pub content : Option PackageData
  pub path : Option (List ℕ)
  pub digest : Option (List ℕ)
  pub expected : Option (List ℕ)

-- the JSON of a finding
unfoldable pub found_json : FoundData → Json
found_json f = object
    (member (codes "kind") (string f.kind)
    (member (codes "message") (string f.message)
    (member (codes "line") (line_or_null f.line)
    (member (codes "package") (package_or_null f.content)
    (member (codes "path") (text_or_null f.path)
    (member (codes "digest") (text_or_null (option_map digest_text f.digest))
    (member (codes "expected") (text_or_null (option_map digest_text f.expected)) no_members)))))))

-- the key of the number of the packages that have no archive, or no folder
abbrev pub missing_key : Compared → List ℕ
missing_key (Archives others) = codes "without_archive"
missing_key Folders = codes "without_folder"

-- the key of the number of the packages of which there is nothing to compare
abbrev pub not_compared_key : Compared → List ℕ
not_compared_key (Archives others) = codes "without_registry"
not_compared_key Folders = codes "without_source"

-- how many archives are passed over, or null for folders
abbrev pub passed_over : Compared → Json
passed_over (Archives others) = number (decimal others)
passed_over Folders = null

-- how many packages are in each class, and the JSON of each finding, in order
unfoldable pub compared_json : Compared → FileData → Counts → List Json → Json
compared_json compared file counts findings = document_json (codes "cargo-lock-verify/2") file
    (member (codes "matches") (number (decimal counts.matches))
    (member (codes "changed") (number (decimal counts.changed))
    (member (missing_key compared) (number (decimal counts.missing))
    (member (codes "without_checksum") (number (decimal counts.without_checksum))
    (member (not_compared_key compared) (number (decimal counts.not_compared))
    (member (codes "archives_of_others") (passed_over compared)
    (member (codes "findings") (array (items_of findings)) no_members)))))))
