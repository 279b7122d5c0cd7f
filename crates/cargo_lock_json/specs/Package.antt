-- Packages in JSON, with the places of the packages on which they depend.
use Rattle.std.specs.Prelude.{ℕ, List, Option, None, Some, codes, decimal, map, option_map, true}
use Rattle.semver.specs.Identifiers.{parts_text}
use Rattle.json.specs.Json.{Json, array, null, number, string, object, member, no_members}
use Rattle.cargo_lock_parts.specs.Checksum.{digest_text}
use Rattle.cargo_lock_parts.specs.Identity.{Identity}
use Rattle.cargo_lock_parts.specs.SourceText.{text_of}
use Rattle.cargo_lock_json.specs.Linked.{LinkedData, places, unresolved}
use Rattle.cargo_lock_json.specs.Dependency.{dependency_or_null, listed_dependency_json}
use Rattle.cargo_lock_display.specs.SourceJson.{origin_or_null}
use Rattle.printing.specs.Json.{items_of}
use Rattle.printing.specs.Value.{text_or_null}

-- places of packages, in their order
abbrev pub places_json : List ℕ → Json
places_json ns = array (items_of (map (λ n. number (decimal n)) ns))

-- dependencies, in their order
abbrev pub listed_dependencies_json : List Identity → Json
listed_dependencies_json ds = array (items_of (map listed_dependency_json ds))

-- a package, with the places of the packages on which it depends, and the dependencies that no
-- package fits
unfoldable pub listed_package_json : LinkedData → Json
listed_package_json linked = object
    (member (codes "name") (string linked.listed.name)
    (member (codes "version") (string (parts_text linked.listed.version))
    (member (codes "source") (text_or_null (option_map (text_of true) linked.listed.source))
    (member (codes "origin") (origin_or_null linked.listed.source)
    (member (codes "checksum") (text_or_null (option_map digest_text linked.listed.checksum))
    (member (codes "dependencies") (places_json (places linked.leads))
    (member (codes "unresolved") (listed_dependencies_json (unresolved linked.leads))
    (member (codes "replace") (dependency_or_null linked.listed.replace) no_members))))))))

-- a package, or null if there is none
abbrev pub listed_package_or_null : Option LinkedData → Json
listed_package_or_null None = null
listed_package_or_null (Some linked) = listed_package_json linked
