-- The lines of the packages of one name, with what needs each.
use Rattle.std.specs.Prelude.{◌≡◌, ◌-◌, ◌≤◌, ◌⊎◌, ℕ, All, Contains, List, [], ◌∷◌, ◌++◌}
use Rattle.std.specs.Prelude.{Option, None}
use Rattle.std.specs.Prelude.{Some, codes, length, map, option_map, replicate}
use Rattle.std.specs.Prelude.{slice_get, string_bytes}
use Rattle.std.specs.List.{flat_map}
use Rattle.std.specs.Ordering.{eq_by_cmp}
use Rattle.std.specs.Set.{distinct_count}
use Rattle.cargo_lock_parts.specs.Identity.{PackageData}
use Rattle.cargo_lock_parts.specs.IdentityOrder.{version_cmp}
use Rattle.cargo_lock_query.specs.Lines.{packages_at}
use Rattle.cargo_lock_display.specs.Line.{named_text, source_among, version_shown}
use Rattle.cargo_lock_query.specs.declared.listing.Row.{Row}
use Rattle.cargo_lock_query.specs.declared.repeated.Duplicate.{Duplicate}
use Rattle.printing.specs.Shown.{shown}
use Rattle.printing.specs.declared.form.Form.TheVariants.{Plain}

-- a package, its version and source as they are shown, and the packages that depend on it
pub record RowData : Type 0 where
  pub listed : PackageData
  pub version : List ℕ
  pub needers : List PackageData

-- the row with its references resolved to what they refer to
abbrev pub row_of : Row → RowData
row_of row = record {
  listed = row.package.now;
  version = string_bytes row.version;
  needers = map (λ p. p.now) row.needers.items;
}

-- the version of a package of a list, and the source after it
abbrev pub version_text : List PackageData → PackageData → List ℕ
version_text list p = version_shown p.version ++ source_among list p

-- the row of a package and the nodes of those that depend on it
abbrev pub row_with : List PackageData → List ℕ → PackageData → RowData
row_with packages needers p = record {
  listed = p;
  version = version_text packages p;
  needers = packages_at packages needers;
}

-- the row of a package of several with one name, if it is one of the packages
abbrev pub row_for : List PackageData → Duplicate → Option RowData
row_for packages d = option_map (row_with packages d.needers.items) (slice_get packages d.node)

-- no version is longer than the width, and one is as long, unless the width is 0
pub record IsWidest (rows : List RowData) (width : ℕ) : Type 0 where
  pub fits : All (λ row. length row.version ≤ width) rows
  pub taken : (width ≡ 0) ⊎ ((row : RowData) × Contains rows row × (length row.version ≡ width))

-- how many different versions the rows have
abbrev pub count_versions : List RowData → ℕ
count_versions rows = distinct_count (eq_by_cmp version_cmp) (map (λ row. row.listed.version) rows)

-- ---- lines

-- packages, with a comma between them
abbrev pub listed_text : List PackageData → List ℕ
listed_text [] = []
listed_text (p ∷ others) = named_text p ++ flat_map (λ q. codes ", " ++ named_text q) others

-- the packages that depend on one, if there are any, in a column of their own
abbrev pub needers_text : ℕ → List PackageData → List ℕ
needers_text padding [] = []
needers_text padding (p ∷ others) = replicate padding 32
    ++ (codes "  needed by " ++ listed_text (p ∷ others))

-- the line of a row, with a newline before it
abbrev pub row_line : ℕ → RowData → List ℕ
row_line width row = codes "\n  " ++ (row.version
    ++ needers_text (width - length row.version) row.needers)

-- the package of the first row
abbrev pub first_in : List RowData → Option PackageData
first_in rows = option_map (λ row. row.listed) (slice_get rows 0)

-- the name of a package as it is shown, if there is one
abbrev pub name_shown : Option PackageData → List ℕ
name_shown None = []
name_shown (Some p) = shown Plain p.name

-- the name, and a line for each package; the last line has no newline
abbrev pub rows_text : ℕ → List RowData → List ℕ
rows_text width rows = name_shown (first_in rows) ++ flat_map (row_line width) rows
