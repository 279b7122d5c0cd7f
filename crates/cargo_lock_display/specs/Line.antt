-- A package, a dependency, a source and a checksum in a line, as commands print them.
use Rattle.std.specs.Prelude.{ℕ, Bool, List, [], ◌++◌, codes, map, Option, Some, None, true}
use Rattle.std.specs.Prelude.{◌&&◌, if◌then◌else◌, is_none}
use Rattle.semver.specs.Identifiers.{parts_text}
use Rattle.semver.specs.Parse.{Parts}
use Rattle.cargo_lock_parts.specs.Checksum.{digest_text}
use Rattle.cargo_lock_parts.specs.Identity.{Identity, PackageData, identity_of}
use Rattle.cargo_lock_parts.specs.Source.{Source}
use Rattle.cargo_lock_parts.specs.SourceShown.{is_default_registry}
use Rattle.cargo_lock_parts.specs.SourceText.{text_of}
use Rattle.cargo_lock_references.specs.WrittenReference.{exactly_one, has_name_and_version}
use Rattle.printing.specs.Shown.{shown}
use Rattle.printing.specs.declared.form.Form.TheVariants.{Plain}

-- a version as it is shown
abbrev pub version_shown : Parts → List ℕ
version_shown version = shown Plain (parts_text version)

-- the source in round brackets after a version: `(path)` if there is none, and nothing for the
-- registry of crates.io
abbrev pub source_after_version : Option Source → List ℕ
source_after_version None = codes " (path)"
source_after_version (Some source) = if is_default_registry source then []
    else codes " (" ++ (shown Plain (text_of true source) ++ codes ")")

-- the source by itself: `(path)` if there is none, and `crates.io` for its registry
abbrev pub source_alone : Option Source → List ℕ
source_alone None = codes "(path)"
source_alone (Some source) = if is_default_registry source then codes "crates.io"
    else shown Plain (text_of true source)

-- the text of a checksum, or `none`
abbrev pub checksum_text : Option (List ℕ) → List ℕ
checksum_text None = codes "none"
checksum_text (Some digest) = shown Plain (digest_text digest)

-- the name and the version
abbrev pub named_text : PackageData → List ℕ
named_text p = shown Plain p.name ++ (codes " " ++ version_shown p.version)

-- the name, the version and the source after them
abbrev pub package_text : PackageData → List ℕ
package_text p = named_text p ++ source_after_version p.source

-- the package alone has its name and its version in a list
abbrev pub is_alone : List PackageData → PackageData → Bool
is_alone list p = exactly_one (has_name_and_version p.name p.version) (map identity_of list)

-- the name and the version, and the source after them where another package of the list has these
abbrev pub package_among : List PackageData → PackageData → List ℕ
package_among list p = if is_alone list p then named_text p else package_text p

-- the source after the version of a package of a list: `(path)` for none only where another package
-- of the list has its name and its version
abbrev pub source_among : List PackageData → PackageData → List ℕ
source_among list p =
    if is_none p.source && is_alone list p then [] else source_after_version p.source

-- a dependency: its name, its version and its source after them
abbrev pub dependency_shown : Identity → List ℕ
dependency_shown d = shown Plain d.name
    ++ (codes " " ++ (version_shown d.version ++ source_after_version d.source))

-- a replacement, or `none`
abbrev pub replacement_shown : Option Identity → List ℕ
replacement_shown None = codes "none"
replacement_shown (Some d) = dependency_shown d
