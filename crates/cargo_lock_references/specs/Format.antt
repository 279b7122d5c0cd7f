-- The format of a lockfile: the number under `version`, or without a number, what follows from the
-- checksums.
-- The rule is that of `ResolveVersion` in `src/lockfile/version.rs` of the Rust crate `cargo-lock`
-- 11.0.1.
use Rattle.std.specs.Prelude.{◌≡◌, ◌==◌, ◌<◌, ◌^◌, ◌++◌, codes, if◌then◌else◌, Bool, true, false}
use Rattle.std.specs.Prelude.{is_some, ℕ, ℤ, pos, negsuc, List, Option, Some, None}
use Rattle.std.specs.declared.cmp.Ordering.{Ordering}
use Rattle.std.specs.Fmt.{signed_decimal}
use Rattle.std.specs.List.{list_any}
use Rattle.std.specs.Ordering.{nat_cmp, on}
use Rattle.std.specs.Str.Parse.{IsNumeral, digits_value, without_leading_plus}
use Rattle.cargo_lock_references.specs.declared.version.ResolveVersion.{ResolveVersion}
use Rattle.cargo_lock_references.specs.declared.version.ResolveVersion.TheVariants.{V1, V2, V3, V4}
use Rattle.cargo_lock_references.specs.Metadata.{has_checksum_key}
use Rattle.cargo_lock_references.specs.Records.{EncodedPackage, Texts}

-- the format with that number
abbrev pub format_numbered : ℕ → Option ResolveVersion
format_numbered n =
    if n == 1 then Some V1
    else (if n == 2 then Some V2
    else (if n == 3 then Some V3
    else (if n == 4 then Some V4
    else None)))

-- the number of a format
abbrev pub number_of : ResolveVersion → ℕ
number_of V1 = 1
number_of V2 = 2
number_of V3 = 3
number_of V4 = 4

-- formats compare by their numbers
abbrev pub format_cmp : ResolveVersion → ResolveVersion → Ordering
format_cmp = on number_of nat_cmp

-- the format with that number, which may be below 0
abbrev pub format_of_number : ℤ → Option ResolveVersion
format_of_number (pos n) = format_numbered n
format_of_number (negsuc n) = None

-- the text is a whole number as Rust reads one, with or without a plus sign, and it is the number
-- of the format
pub record IsFormatText (text : List ℕ) (v : ResolveVersion) : Type 0 where
  pub digits : IsNumeral 10 (without_leading_plus text)
  pub number : format_numbered (digits_value 10 (without_leading_plus text)) ≡ Some v

-- the text is the number of some format
abbrev pub HasFormat : List ℕ → Type 0
HasFormat text = (v : ResolveVersion) × IsFormatText text v

-- the text is a whole number of 32 bits as Rust reads one, with or without a plus sign
abbrev pub IsNumberText : List ℕ → Type 0
IsNumberText text =
    IsNumeral 10 (without_leading_plus text)
    × (digits_value 10 (without_leading_plus text) < 2 ^ 32)

-- why the quoted text is not the number of a format
abbrev pub format_refusal : List ℕ → List ℕ
format_refusal quote = codes "invalid Cargo.lock format version: `" ++ quote ++ codes "`"

-- why a table with checksums in its packages and in its metadata has no format
abbrev pub checksums_refusal : List ℕ
checksums_refusal =
    codes "malformed lockfile: contains checksums in both [[package]] and [[metadata]] sections"

-- why values with that number, or with none, have no format
abbrev pub refusal_by : Option ℤ → List ℕ
refusal_by (Some z) = format_refusal (signed_decimal z)
refusal_by None = checksums_refusal

-- some package has a checksum
abbrev pub has_checksum : List EncodedPackage → Bool
has_checksum entries = list_any (λ e. is_some e.checksum) entries

-- by whether some key of the metadata begins with `checksum `, and whether some package has a
-- checksum: there is no format for both at once
abbrev pub format_by_checksums : Bool → Bool → Option ResolveVersion
format_by_checksums true true = None
format_by_checksums true false = Some V1
format_by_checksums false b = Some V2

-- the format of values without a number; the root is ignored
abbrev pub format_without_number : List EncodedPackage → Texts → Option ResolveVersion
format_without_number entries m = format_by_checksums (has_checksum_key m) (has_checksum entries)

-- the format of a number, or else the one that follows from packages and metadata
abbrev pub format_by : Option ℤ → List EncodedPackage → Texts → Option ResolveVersion
format_by (Some z) entries m = format_of_number z
format_by None entries m = format_without_number entries m
