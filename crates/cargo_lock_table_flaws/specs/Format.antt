-- The format of a table whose packages may not read.
use Rattle.std.specs.Prelude.{◌||◌, Bool, false, if◌then◌else◌, codes, Option, None, Some}
use Rattle.std.specs.Prelude.{option_map, unwrap_or}
use Rattle.std.specs.Option.{option_and_then}
use Rattle.toml.specs.Data.{Data, Members, no_members, member, as_integer, as_table, get_member}
use Rattle.cargo_lock_references.specs.declared.version.ResolveVersion.{ResolveVersion}
use Rattle.cargo_lock_references.specs.declared.version.ResolveVersion.TheVariants.{V1, V2}
use Rattle.cargo_lock_references.specs.Format.{format_of_number}
use Rattle.cargo_lock_references.specs.Metadata.{is_checksum}

-- some key begins with `checksum `
abbrev pub has_checksum_member : Members → Bool
has_checksum_member no_members = false
has_checksum_member (member key d ms) = is_checksum key || has_checksum_member ms

-- the value is a table with such a key
abbrev pub has_checksums : Data → Bool
has_checksums d = unwrap_or (option_map has_checksum_member (as_table d)) false

-- the format of a table without a number: V1 if its metadata have a checksum, and otherwise V2
abbrev pub unnumbered_format : Members → ResolveVersion
unnumbered_format ms = if unwrap_or
    (option_map has_checksums (get_member (codes "metadata") ms)) false then V1 else V2

-- the format of what stands under `version`
abbrev pub format_said_by : Option Data → Members → Option ResolveVersion
format_said_by None ms = Some (unnumbered_format ms)
format_said_by (Some d) ms = option_and_then format_of_number (as_integer d)

-- the format that a table says, if it says one: what its packages hold does not count
unfoldable pub said_format : Members → Option ResolveVersion
said_format ms = format_said_by (get_member (codes "version") ms) ms
