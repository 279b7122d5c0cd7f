-- The text of a lockfile, line by line, as Cargo writes it.
-- The rule is that of `serialize_resolve` and `emit_package` in Cargo's `src/cargo/ops/lockfile.rs`
-- at `0c70319`, as `src/lockfile/encoding.rs` of the Rust crate `cargo-lock` 11.0.1 adapts them.
use Rattle.std.specs.Prelude.{◌≡◌, ℕ, ℤ, pos, negsuc, ◌+◌, nat_le, Bool, if◌then◌else◌, List, []}
use Rattle.std.specs.Prelude.{◌∷◌, ◌++◌, Option, Some, None, OnOk, Result, String, option_map, map}
use Rattle.std.specs.Prelude.{codes, decimal, string_bytes}
use Rattle.std.specs.Char.{encode_utf8}
use Rattle.std.specs.FinMap.{entries}
use Rattle.std.specs.List.{flat_map}
use Rattle.std.specs.Option.{option_to_list}
use Rattle.semver.specs.Identifiers.{parts_text}
use Rattle.cargo_lock_parts.specs.Checksum.{digest_text}
use Rattle.cargo_lock_parts.specs.Identity.{Identity}
use Rattle.cargo_lock_parts.specs.Source.{MarkedSource}
use Rattle.cargo_lock_parts.specs.SourceText.{marked_text}
use Rattle.cargo_lock_references.specs.WrittenReference.{written_source}
use Rattle.cargo_lock_references.specs.Reference.{Reference, reference_text}
use Rattle.cargo_lock_references.specs.Records.{EncodedPackage}
use Rattle.cargo_lock_lines.specs.Quoting.{short_escape, escape_or}
use Rattle.cargo_lock_lines.specs.Layout.{field, quote_line, metadata_lines, comment_lines}
use Rattle.cargo_lock_lines.specs.Layout.{join_lines}
use Rattle.cargo_lock_encoding.specs.Lockfiles.{EncodedData, LockfileData, is_escaped_number}
use Rattle.cargo_lock_encoding.specs.Table.{encoded_of}

-- ---- strings

-- a character as the code escapes it, which is the same as each of its bytes escaped
abbrev pub escape_char : ℕ → List ℕ
escape_char c = escape_or (encode_utf8 c) (short_escape c) c

-- ---- lines

-- the line of a source
abbrev pub source_line : MarkedSource → List ℕ
source_line m = field (codes "source") (marked_text m)

-- the line of a checksum
abbrev pub checksum_line : List ℕ → List ℕ
checksum_line c = field (codes "checksum") (digest_text c)

-- the line of a replacement
abbrev pub replace_line : Reference → List ℕ
replace_line f = field (codes "replace") (reference_text f)

-- the line of a dependency
abbrev pub dependency_line : Reference → List ℕ
dependency_line f = quote_line (reference_text f)

-- the dependencies, or if there are none, the replacement
abbrev pub reference_lines : List Reference → Option Reference → List (List ℕ)
reference_lines [] replace = option_to_list (option_map replace_line replace)
reference_lines (f ∷ fs) replace =
    codes "dependencies = [" ∷ (map dependency_line (f ∷ fs) ++ codes "]" ∷ [])

-- an empty line, and a package
abbrev pub package_lines : EncodedPackage → List (List ℕ)
package_lines e =
    [] ∷ codes "[[package]]" ∷ field (codes "name") e.name
    ∷ field (codes "version") (parts_text e.version)
    ∷ (option_to_list (option_map source_line e.source)
    ++ (option_to_list (option_map checksum_line e.checksum)
    ++ reference_lines e.dependencies e.replace))

-- an empty line, an unused patch, its source escaped or plain, and one more empty line
abbrev pub patch_lines : Bool → Identity → List (List ℕ)
patch_lines escaped i =
    [] ∷ codes "[[patch.unused]]" ∷ field (codes "name") i.name
    ∷ field (codes "version") (parts_text i.version)
    ∷ (option_to_list (option_map source_line (written_source escaped i.source)) ++ [] ∷ [])

-- the number is in the file from V3 on
abbrev pub version_lines : Option ℤ → List (List ℕ)
version_lines None = []
version_lines (Some (negsuc n)) = []
version_lines (Some (pos n)) = if nat_le 3 n then (codes "version = " ++ decimal n) ∷ [] else []

-- the lines of the values of a table
abbrev pub encoded_lines : EncodedData → List (List ℕ)
encoded_lines e =
    comment_lines ++ (version_lines e.version ++ (flat_map package_lines e.packages
    ++ (flat_map (patch_lines (is_escaped_number e.version)) e.patch
    ++ metadata_lines (entries e.metadata))))

-- the lines of a lockfile; the root is never printed
abbrev pub lines_of : LockfileData → List (List ℕ)
lines_of l = encoded_lines (encoded_of l)

-- ---- what is added to a text

-- the bytes are added at the end of the text, if memory suffices
abbrev pub Adds : {X Y Z : Type 0} → Result X Y → String Z → String Z → List ℕ → Type 0
Adds answer before after bytes = OnOk answer (string_bytes after ≡ string_bytes before ++ bytes)

-- the lines are added, each with a newline after it, if memory suffices
abbrev pub AddsLines : {X Y Z : Type 0} → Result X Y → String Z → String Z → List (List ℕ) → Type 0
AddsLines answer before after lines = Adds answer before after (join_lines lines)
