-- The names that several packages have, in JSON: the document that `duplicates --json` prints.
use Rattle.std.specs.Prelude.{List, codes, map, option_map}
use Rattle.json.specs.Json.{Json, array, object, member, no_members}
use Rattle.cargo_lock_query.specs.Listing.{RowData, first_in}
use Rattle.cargo_lock_query.specs.Tally.{GroupData}
use Rattle.cargo_lock_display.specs.File.{FileData, list_document}
use Rattle.cargo_lock_display.specs.PackageJson.{package_json, packages_json}
use Rattle.printing.specs.Value.{text_or_null}
use Rattle.printing.specs.Json.{items_of}

-- a package, and those that depend on it
unfoldable pub row_json : RowData → Json
row_json row = object
    (member (codes "package") (package_json row.listed)
    (member (codes "needed_by") (packages_json row.needers) no_members))

-- a name, which is that of the first package, and its packages; null if there is no package
unfoldable pub group_json : GroupData → Json
group_json group = object
    (member (codes "name") (text_or_null (option_map (λ p. p.name) (first_in group.rows)))
    (member (codes "packages") (array (items_of (map row_json group.rows))) no_members))

-- the names, each once and in order
unfoldable pub groups_json : FileData → List GroupData → Json
groups_json file groups = list_document (codes "cargo-lock-duplicates/1") file (codes "names")
    (map group_json groups)
