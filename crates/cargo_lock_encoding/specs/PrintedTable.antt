-- The table that the printed text of a lockfile reads as.
-- What a text is read as is the rule of TOML 1.1.0, as the kit's crate `toml` defines it.
use Rattle.std.specs.Prelude.{◌≡◌, ◌^◌, ◌<◌, ℤ, pos, negsuc, nat_le, if◌then◌else◌, List, [], ◌∷◌}
use Rattle.std.specs.Prelude.{Option, Some, None, ◌⊎◌, option_map, map, codes}
use Rattle.toml.specs.Data.{integer, Members}
use Rattle.toml.specs.Parse.{parse_document}
use Rattle.cargo_lock_parts.specs.Identity.{PackageData}
use Rattle.cargo_lock_references.specs.Records.{EncodedPackage}
use Rattle.cargo_lock_references.specs.Reference.{Reference}
use Rattle.cargo_lock_encoding.specs.Lockfiles.{EncodedData, LockfileData, is_escaped_number}
use Rattle.cargo_lock_encoding.specs.Table.{encoded_of, encoded_package_value, metadata_value}
use Rattle.cargo_lock_encoding.specs.Table.{patch_value}
use Rattle.cargo_lock_lines.specs.TableOfWords.{present_members, unless_empty}
use Rattle.cargo_lock_encoding.specs.Text.{encoded_lines, lines_of}
use Rattle.cargo_lock_lines.specs.Layout.{join_lines}

-- the number that the text has: from 3 on
abbrev pub printed_number : Option ℤ → Option ℤ
printed_number None = None
printed_number (Some (negsuc n)) = None
printed_number (Some (pos n)) = if nat_le 3 n then Some (pos n) else None

-- the replacement that the text has: none if there are dependencies
abbrev pub printed_replace : List Reference → Option Reference → Option Reference
printed_replace [] replace = replace
printed_replace (f ∷ fs) replace = None

-- a package as the text has it
abbrev pub printed_package : EncodedPackage → EncodedPackage
printed_package e = record {
  name = e.name;
  version = e.version;
  source = e.source;
  checksum = e.checksum;
  dependencies = e.dependencies;
  replace = printed_replace e.dependencies e.replace;
}

-- The table of values as their text has it: without the root, without the list of packages if it is
-- empty, without the replacement of a package that has dependencies, and without a number below 3.
abbrev pub printed_table : EncodedData → Members
printed_table e = present_members (
    (codes "metadata", metadata_value e.metadata)
    ∷ (codes "package", unless_empty (map encoded_package_value (map printed_package e.packages)))
    ∷ (codes "patch", patch_value (is_escaped_number e.version) e.patch)
    ∷ (codes "version", option_map integer (printed_number e.version)) ∷ [])

-- there is no number, or it is below 2^63, as an `i64` is
abbrev pub HasSmallNumber : Option ℤ → Type 0
HasSmallNumber None = Unit {0}
HasSmallNumber (Some (negsuc n)) = Unit {0}
HasSmallNumber (Some (pos n)) = n < 2 ^ 63

-- `toml` reads the printed text of all values as that table
abbrev pub ValuesAreRead : Type 0
ValuesAreRead = (e : EncodedData) → HasSmallNumber e.version
    → parse_document (join_lines (encoded_lines e)) ≡ Some (printed_table e)

-- `toml` reads the printed text of every lockfile as that table
abbrev pub TextIsRead : Type 0
TextIsRead = (l : LockfileData) → parse_document (join_lines (lines_of l))
    ≡ Some (printed_table (encoded_of l))

-- the text has the replacement of a package only where the package has no dependencies
abbrev pub HasAllPrinted : PackageData → Type 0
HasAllPrinted p = (p.dependencies ≡ []) ⊎ (p.replace ≡ None)
