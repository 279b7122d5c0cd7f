-- The depth of the document of findings.
use Rattle.std.proofs.Common.{◌≤◌, ℕ, Option, arith}
use Rattle.json.specs.Tree.{depth}
use Rattle.cargo_lock_display.proofs.Depth.{identity-depth}
use Rattle.cargo_lock_location.proofs.LineDepth.{line-depth}
use Rattle.cargo_lock_references.specs.Records.{encoded_identity}
use Rattle.cargo_lock_table_flaws.specs.Document.{finding_package_json, table_finding_json}
use Rattle.cargo_lock_table_flaws.specs.Finding.{TableFindingData, Unread, Unresolved}

package-depth : (f : TableFindingData) → depth (finding_package_json f) ≤ 3
package-depth (Unread o k w) = omega arith
package-depth (Unresolved place p f r) = identity-depth (encoded_identity p) p.checksum

pub table-finding-depth : (line : Option ℕ) (f : TableFindingData) → depth (table_finding_json line f) ≤ 4
unfolding table_finding_json
table-finding-depth line f = omega (arith, line-depth line, package-depth f)
