-- Packages and dependencies in JSON.
use Rattle.std.specs.Prelude.{ℕ, List, Option, None, Some, codes, map, option_map, true}
use Rattle.semver.specs.Identifiers.{parts_text}
use Rattle.json.specs.Json.{Json, array, null, string, object, member, no_members}
use Rattle.cargo_lock_parts.specs.Checksum.{digest_text}
use Rattle.cargo_lock_parts.specs.Identity.{Identity, PackageData, identity_of}
use Rattle.cargo_lock_parts.specs.SourceText.{text_of}
use Rattle.cargo_lock_display.specs.SourceJson.{origin_or_null}
use Rattle.printing.specs.Json.{items_of}
use Rattle.printing.specs.Value.{text_or_null}

-- a name, a version, a source as a V4 lockfile has it, what the source is, and a checksum; the
-- last three may be null
unfoldable pub identity_json : Identity → Option (List ℕ) → Json
identity_json i checksum = object
    (member (codes "name") (string i.name)
    (member (codes "version") (string (parts_text i.version))
    (member (codes "source") (text_or_null (option_map (text_of true) i.source))
    (member (codes "origin") (origin_or_null i.source)
    (member (codes "checksum") (text_or_null (option_map digest_text checksum)) no_members)))))

-- the JSON of a package
abbrev pub package_json : PackageData → Json
package_json p = identity_json (identity_of p) p.checksum

-- a package, or null if there is none
abbrev pub package_or_null : Option PackageData → Json
package_or_null None = null
package_or_null (Some p) = package_json p

-- packages, in their order
abbrev pub packages_json : List PackageData → Json
packages_json ps = array (items_of (map package_json ps))

-- a dependency, of which no checksum is known
abbrev pub dependency_json : Identity → Json
dependency_json d = identity_json d None
