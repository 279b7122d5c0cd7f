-- The text of all names that several packages have, and its last line, which counts them.
use Rattle.std.specs.Prelude.{◌≡◌, ◌-◌, ℕ, ◌==◌, All, List, [], ◌∷◌, ◌++◌, codes, decimal, length}
use Rattle.std.specs.Prelude.{if◌then◌else◌, map}
use Rattle.std.specs.List.{AllZip, filter_map, flat_map, sum_by}
use Rattle.cargo_lock_parts.specs.Ascii.{newline}
use Rattle.cargo_lock_parts.specs.Identity.{PackageData}
use Rattle.cargo_lock_graph.specs.Edges.{GraphData}
use Rattle.cargo_lock_query.specs.Duplicates.{AreDuplicates}
use Rattle.cargo_lock_query.specs.Listing.{IsWidest, RowData, count_versions, row_for, row_of}
use Rattle.cargo_lock_query.specs.Listing.{rows_text}
use Rattle.cargo_lock_query.specs.Needers.{AreNeeders}
use Rattle.cargo_lock_query.specs.declared.listing.Rows.{Rows}
use Rattle.cargo_lock_query.specs.declared.repeated.Duplicate.{Duplicate}

-- the packages of one name, the width of their column of versions, and how many versions they have
pub record GroupData : Type 0 where
  pub width : ℕ
  pub versions : ℕ
  pub rows : List RowData

-- the group with its references resolved to what they refer to
abbrev pub group_of_rows : Rows → GroupData
group_of_rows rows = record {
  width = rows.width;
  versions = rows.versions;
  rows = map row_of rows.rows.items;
}

-- the group has the rows of these packages of one name, its column is as wide as the widest version,
-- and its number is that of their versions
pub record IsGroupOf (packages : List PackageData) (group : List Duplicate)
    (made : GroupData) : Type 0 where
  pub rows : made.rows ≡ filter_map (row_for packages) group
  pub width : IsWidest made.rows made.width
  pub versions : made.versions ≡ count_versions made.rows

-- the groups are those of the names that several packages of the graph have, each package with
-- those that depend on it
pub record AreGroupsOf (graph : GraphData) (made : List GroupData) : Type 0 where
  pub groups : List (List Duplicate)
  pub several : AreDuplicates graph.packages (map (map (λ one. one.node)) groups)
  pub needers : All (All (λ one. AreNeeders graph one.node one.needers.items)) groups
  pub shown : AllZip (IsGroupOf graph.packages) groups made

-- how many packages a group has besides one
abbrev pub surplus : GroupData → ℕ
surplus group = length group.rows - 1

-- how many packages there are more than one of each name
abbrev pub surplus_of_all : List GroupData → ℕ
surplus_of_all groups = sum_by surplus groups

-- how many versions the names have, each name its own
abbrev pub versions_of_all : List GroupData → ℕ
versions_of_all groups = sum_by (λ group. group.versions) groups

-- ---- text

-- a number and its noun, in the singular or the plural
abbrev pub counted : ℕ → List ℕ → List ℕ → List ℕ
counted n one more = decimal n ++ (codes " " ++ (if n == 1 then one else more))

-- the last line, if there is any crate of several packages: how many crates these are, how many
-- versions they have, and how many packages there are more than one of each
abbrev pub tally_line : ℕ → ℕ → ℕ → List ℕ
tally_line crates versions more = if crates == 0 then []
    else counted crates (codes "crate") (codes "crates") ++ (codes " in "
    ++ (counted versions (codes "version") (codes "versions") ++ (codes " ("
    ++ (counted more (codes "surplus package") (codes "surplus packages") ++ codes ")\n"))))

-- the lines of a group, each with its newline
abbrev pub group_text : GroupData → List ℕ
group_text group = rows_text group.width group.rows ++ newline ∷ []

-- the lines of each group, and the last line
abbrev pub listing_text : List GroupData → List ℕ
listing_text groups = flat_map group_text groups
    ++ tally_line (length groups) (versions_of_all groups) (surplus_of_all groups)
