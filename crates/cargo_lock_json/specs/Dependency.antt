-- Dependencies in JSON, and the beginning of a package.
use Rattle.std.specs.Prelude.{ℕ, List, Option, None, Some, codes, option_map, true}
use Rattle.semver.specs.Identifiers.{parts_text}
use Rattle.json.specs.Json.{Json, null, string, object, member, no_members}
use Rattle.cargo_lock_parts.specs.Identity.{Identity}
use Rattle.cargo_lock_parts.specs.SourceText.{text_of}
use Rattle.cargo_lock_display.specs.SourceJson.{origin_or_null}
use Rattle.printing.specs.Value.{text_or_null}

-- a dependency
unfoldable pub listed_dependency_json : Identity → Json
listed_dependency_json d = object
    (member (codes "name") (string d.name)
    (member (codes "version") (string (parts_text d.version))
    (member (codes "source") (text_or_null (option_map (text_of true) d.source))
    (member (codes "origin") (origin_or_null d.source) no_members))))

-- a dependency, or null if there is none
abbrev pub dependency_or_null : Option Identity → Json
dependency_or_null None = null
dependency_or_null (Some d) = listed_dependency_json d
