-- The options of a bill.
use Rattle.std.specs.Prelude.{ℕ, Bool, List, length, nat_lt, Option, Some, None, if◌then◌else◌}
use Rattle.std.specs.Prelude.{string_bytes}
use Rattle.cargo_lock_graph.specs.Edges.{GraphData}
use Rattle.cargo_lock_bom.specs.declared.options.License.{License}
use Rattle.cargo_lock_bom.specs.declared.options.License.TheVariants as license
use Rattle.cargo_lock_bom.specs.declared.options.Listed.{Listed}
use Rattle.cargo_lock_bom.specs.declared.options.Property.{Property}

-- what the manifest of a package says of its licence: an expression, or a text that is none
pub data LicenseData : Type 0 where
  Expression : List ℕ → LicenseData
  Named : List ℕ → LicenseData

-- the same of the program
abbrev pub license_of : License → LicenseData
license_of (license.Expression text) = Expression (string_bytes text)
license_of (license.Named text) = Named (string_bytes text)

-- the name and the value of a property
abbrev pub property_of : Property → List ℕ × List ℕ
property_of p = (string_bytes p.name, string_bytes p.value)

-- the node of the root, if it is given, which packages are listed, the version of the program that
-- writes the bill, the time in seconds since 1970, if the bill has one, its authors, the names and
-- values of its properties, whether it has a serial number, and the licences of the
-- packages that have one, by the place of the package
pub record OptionsData : Type 0 where
  pub root : Option ℕ
  pub listed : Listed
  pub tool_version : List ℕ
  pub timestamp : Option ℕ
  pub authors : List (List ℕ)
  pub properties : List (List ℕ × List ℕ)
  pub has_serial : Bool
  pub licenses : List (Option LicenseData)

-- the number, if there is one and it is below the limit
abbrev pub below : ℕ → Option ℕ → Option ℕ
below limit None = None
below limit (Some n) = if nat_lt n limit then Some n else None

-- the options without those that are ignored for the bill of a graph: a root that is not a node,
-- and a time after the year 9999, which the format cannot represent
abbrev pub within : GraphData → OptionsData → OptionsData
within graph o = record o {
  root = below (length graph.packages) o.root;
  timestamp = below 253_402_300_800 o.timestamp;
}
