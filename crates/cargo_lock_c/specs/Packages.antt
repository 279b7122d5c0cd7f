-- The packages of a lockfile, as callers get them: a line each.
use Rattle.std.specs.Prelude.{◌≡◌, ◌==◌, ◌++◌, ◌∷◌, [], ◌&&◌, ◌||◌, ℕ, nat_le, Bool, not, true, false}
use Rattle.std.specs.Prelude.{List, Option, Some, None, Any}
use Rattle.std.specs.Int.{is_in_range}
use Rattle.std.specs.List.{All, flat_map, list_all}
use Rattle.std.specs.Str.{chars}
use Rattle.semver.specs.Identifiers.{parts_text}
use Rattle.cargo_lock_parts.specs.Ascii.{newline, tab}
use Rattle.cargo_lock_parts.specs.Checksum.{digest_text}
use Rattle.cargo_lock_parts.specs.Identity.{PackageData}
use Rattle.cargo_lock_parts.specs.Source.{Source}
use Rattle.cargo_lock_parts.specs.SourceText.{text_of}
use Rattle.cargo_lock_encoding.specs.Lockfiles.{LockfileData}
use Rattle.cargo_lock_encoding.specs.Means.{TextMeans}

-- the text of a source, or an empty one
abbrev pub source_field : Option Source → List ℕ
source_field None = []
source_field (Some source) = text_of false source

-- the 64 digits of a checksum, or an empty text
abbrev pub checksum_field : Option (List ℕ) → List ℕ
checksum_field None = []
checksum_field (Some digest) = digest_text digest

-- the line of a package: name, version, source and checksum, separated by tabs, and a newline
abbrev pub tabbed_line : PackageData → List ℕ
tabbed_line p = p.name ++ (tab ∷ (parts_text p.version ++ (tab ∷ (source_field p.source
    ++ (tab ∷ (checksum_field p.checksum ++ newline ∷ []))))))

-- no control character, and no separator of lines or of paragraphs
abbrev pub is_line_char : ℕ → Bool
is_line_char c = is_in_range 0x20 0x7E c
    || (nat_le 0xA0 c && (not (c == 0x2028) && not (c == 0x2029)))

-- the name and the text of the source have only such characters, so the line has three tabs and one
-- newline
abbrev pub has_line : PackageData → Bool
has_line p = list_all is_line_char (chars p.name)
    && list_all is_line_char (chars (source_field p.source))

-- the text is that of a lockfile, and these bytes are the lines of its packages in order
abbrev pub IsPackageList : List ℕ → List ℕ → Type 0
IsPackageList text bytes = (l : LockfileData) × TextMeans text l
    × All (λ p. has_line p ≡ true) l.packages × (bytes ≡ flat_map tabbed_line l.packages)

-- the text is that of a lockfile, and some package has no line
abbrev pub LacksLine : List ℕ → Type 0
LacksLine text = (l : LockfileData) × TextMeans text l × Any (λ p. has_line p ≡ false) l.packages
