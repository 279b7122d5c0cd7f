-- What is reported of a table that is no lockfile.
use Rattle.std.specs.Prelude.{◌≡◌, ◌≢◌, ◌⊎◌, ◌+◌, [], ℕ, List, codes, length, None, Some}
use Rattle.std.specs.Prelude.{option_map, unwrap_or}
use Rattle.toml.specs.Data.{Data, Items, no_items, item, Members, as_array, get_member}
use Rattle.cargo_lock_encoding.specs.Lockfiles.{EncodedData, format_of}
use Rattle.cargo_lock_encoding.specs.TableReading.{encoded_at}
use Rattle.cargo_lock_references.specs.declared.version.ResolveVersion.{ResolveVersion}
use Rattle.cargo_lock_table_flaws.specs.Finding.{TableFindingData}
use Rattle.cargo_lock_table_flaws.specs.Format.{said_format}
use Rattle.cargo_lock_table_flaws.specs.Unread.{unread_values}
use Rattle.cargo_lock_table_flaws.specs.Unresolved.{unresolved_references}

-- a format, a number of packages, and findings
pub record TableReportData : Type 0 where
  pub format : ResolveVersion
  pub packages : ℕ
  pub findings : List TableFindingData

-- how many items there are
abbrev pub items_count : Items → ℕ
items_count no_items = 0
items_count (item d ds) = items_count ds + 1

-- how many items a value has, if it is a list
abbrev pub item_count : Data → ℕ
item_count d = unwrap_or (option_map items_count (as_array d)) 0

-- how many packages a table lists
abbrev pub listed_count : Members → ℕ
listed_count t = unwrap_or (option_map item_count (get_member (codes "package") t)) 0

-- the report has what does not read in the table, which is something, and the format that it says
pub record IsUnreadReport (t : Members) (r : TableReportData) : Type 0 where
  pub format : said_format t ≡ Some r.format
  pub packages : r.packages ≡ listed_count t
  pub findings : r.findings ≡ unread_values t
  pub some : r.findings ≢ []

-- the table says no format, or all reads
abbrev pub IsWithoutUnread : Members → Type 0
IsWithoutUnread t = (said_format t ≡ None) ⊎ (unread_values t ≡ [])

-- the report has the references among the values that resolve to nothing, of which there is one,
-- and the format of the values
pub record IsUnresolvedReport (e : EncodedData) (r : TableReportData) : Type 0 where
  pub format : format_of e ≡ Some r.format
  pub packages : r.packages ≡ length e.packages
  pub findings : r.findings ≡ unresolved_references r.format e
  pub some : r.findings ≢ []

-- the values have no format, or each reference resolves in it
abbrev pub IsWithoutUnresolved : EncodedData → Type 0
IsWithoutUnresolved e = (format : ResolveVersion) → format_of e ≡ Some format
    → unresolved_references format e ≡ []

-- the report has the references of the values of the table that resolve to nothing
abbrev pub IsReferenceReport : Members → TableReportData → Type 0
IsReferenceReport t r = (e : EncodedData) × (encoded_at t ≡ Some e) × IsUnresolvedReport e r

-- the report is one of the two of the table
abbrev pub IsTableReport : Members → TableReportData → Type 0
IsTableReport t r = IsUnreadReport t r ⊎ IsReferenceReport t r
