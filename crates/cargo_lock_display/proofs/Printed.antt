-- The texts of packages, sources and checksums are printable.
use Rattle.std.proofs.Common.{codes, List, ℕ, Option, Some, None, refl}
use Rattle.semver.specs.Parse.{Parts}
use Rattle.printing.specs.declared.form.Form.TheVariants.{Plain}
use Rattle.printing.proofs.Printable.{Prints, either_text, empty, join, literal, shown-prints, words}
use Rattle.cargo_lock_parts.specs.Identity.{Identity, PackageData}
use Rattle.cargo_lock_parts.specs.Source.{Source}
use Rattle.cargo_lock_parts.specs.SourceShown.{is_default_registry}
use Rattle.cargo_lock_display.specs.Line.{checksum_text, dependency_shown, named_text, package_text}
use Rattle.cargo_lock_display.specs.Line.{replacement_shown, source_after_version, source_alone}
use Rattle.cargo_lock_display.specs.Line.{version_shown}

pub version-prints : (v : Parts) → Prints (version_shown v)
version-prints v = shown-prints Plain _

pub behind-prints : (s : Option Source) → Prints (source_after_version s)
behind-prints None = literal (codes " (path)") refl
behind-prints (Some s) = either_text (is_default_registry s) empty
    (words (codes " (") refl (join (shown-prints Plain _) (literal (codes ")") refl)))

pub alone-prints : (s : Option Source) → Prints (source_alone s)
alone-prints None = literal (codes "(path)") refl
alone-prints (Some s) = either_text (is_default_registry s) (literal (codes "crates.io") refl)
    (shown-prints Plain _)

pub checksum-prints : (c : Option (List ℕ)) → Prints (checksum_text c)
checksum-prints None = literal (codes "none") refl
checksum-prints (Some digest) = shown-prints Plain _

pub named-prints : (p : PackageData) → Prints (named_text p)
named-prints p =
    join (shown-prints Plain p.name) (words (codes " ") refl (version-prints p.version))

pub package-prints : (p : PackageData) → Prints (package_text p)
package-prints p = join (named-prints p) (behind-prints p.source)

pub dependency-prints : (d : Identity) → Prints (dependency_shown d)
dependency-prints d = join (shown-prints Plain d.name)
    (words (codes " ") refl (join (version-prints d.version) (behind-prints d.source)))

pub replacement-prints : (d : Option Identity) → Prints (replacement_shown d)
replacement-prints None = literal (codes "none") refl
replacement-prints (Some d) = dependency-prints d
