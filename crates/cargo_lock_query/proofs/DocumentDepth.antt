-- The depth of the documents of answers and of names.
use Rattle.std.proofs.Common.{◌≤◌, List, arith, option_map}
use Rattle.json.specs.Tree.{depth}
use Rattle.cargo_lock_query.specs.Lines.{AnswerData, Needed, Nothing}
use Rattle.cargo_lock_query.specs.Listing.{RowData, first_in}
use Rattle.cargo_lock_query.specs.Tally.{GroupData}
use Rattle.cargo_lock_parts.specs.Identity.{PackageData, identity_of}
use Rattle.cargo_lock_query.specs.DuplicatesDocument.{group_json, row_json}
use Rattle.cargo_lock_display.specs.PackageJson.{package_json, packages_json}
use Rattle.cargo_lock_query.specs.WhyDocument.{answer_json, needed_by_json, package_in}
use Rattle.cargo_lock_display.proofs.Depth.{identity-depth}
use Rattle.printing.proofs.Depth.{array-depth, text-depth}

one-depth : (p : PackageData) → depth (package_json p) ≤ 3
one-depth p = identity-depth (identity_of p) p.checksum

packages-depth : (ps : List PackageData) → depth (packages_json ps) ≤ 4
packages-depth = array-depth 3 package_json one-depth

needed-depth : (answer : AnswerData) → depth (needed_by_json answer) ≤ 4
needed-depth (Needed p needers) = packages-depth needers
needed-depth (Nothing p) = omega arith

pub answer-depth : (answer : AnswerData) → depth (answer_json answer) ≤ 5
unfolding answer_json
answer-depth answer = omega (arith, one-depth (package_in answer), needed-depth answer)

row-depth : (row : RowData) → depth (row_json row) ≤ 5
unfolding row_json
row-depth row = omega (arith, one-depth row.listed, packages-depth row.needers)

pub group-depth : (group : GroupData) → depth (group_json group) ≤ 7
unfolding group_json
group-depth group = omega (
  arith,
  text-depth (option_map (λ (p : PackageData). p.name) (first_in group.rows)),
  array-depth 5 row_json row-depth group.rows,
)
