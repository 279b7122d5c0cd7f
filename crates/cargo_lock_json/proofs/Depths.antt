-- How deep the document of a lockfile nests.
use Rattle.std.proofs.Common.{◌≤◌, ℕ, List, [], ◌∷◌, Option, None, Some, arith, decimal, option_map, true}
use Rattle.std.specs.FinMap.{entries}
use Rattle.json.specs.Json.{Json, number}
use Rattle.json.specs.Tree.{depth, members_depth}
use Rattle.cargo_lock_parts.specs.Checksum.{digest_text}
use Rattle.cargo_lock_parts.specs.Identity.{Identity}
use Rattle.cargo_lock_parts.specs.SourceText.{text_of}
use Rattle.cargo_lock_encoding.specs.Lockfiles.{LockfileData}
use Rattle.cargo_lock_json.specs.Document.{lockfile_json, patch_json, texts_members}
use Rattle.cargo_lock_json.specs.Linked.{LinkedData, places, unresolved}
use Rattle.cargo_lock_json.specs.Package.{listed_dependencies_json, listed_package_json, listed_package_or_null, places_json}
use Rattle.cargo_lock_json.specs.Dependency.{dependency_or_null, listed_dependency_json}
use Rattle.cargo_lock_display.specs.File.{FileData, document_json}
use Rattle.cargo_lock_display.proofs.Depth.{origin-depth}
use Rattle.printing.proofs.Depth.{array-depth, text-depth}

dependency-depth : (d : Identity) → depth (listed_dependency_json d) ≤ 3
unfolding listed_dependency_json
dependency-depth d = omega (arith, text-depth (option_map (text_of true) d.source), origin-depth d.source)

dependency_or_null-depth : (d : Option Identity) → depth (dependency_or_null d) ≤ 3
dependency_or_null-depth None = omega arith
dependency_or_null-depth (Some d) = dependency-depth d

places-depth : (ns : List ℕ) → depth (places_json ns) ≤ 1
places-depth = array-depth 0 (λ n. number (decimal n)) (λ n. omega arith)

dependencies-depth : (ds : List Identity) → depth (listed_dependencies_json ds) ≤ 4
dependencies-depth = array-depth 3 listed_dependency_json dependency-depth

package-depth : (linked : LinkedData) → depth (listed_package_json linked) ≤ 5
unfolding listed_package_json
package-depth linked = omega (
  arith,
  text-depth (option_map (text_of true) linked.listed.source),
  origin-depth linked.listed.source,
  text-depth (option_map digest_text linked.listed.checksum),
  places-depth (places linked.leads),
  dependencies-depth (unresolved linked.leads),
  dependency_or_null-depth linked.listed.replace,
)

package_or_null-depth : (linked : Option LinkedData) → depth (listed_package_or_null linked) ≤ 5
package_or_null-depth None = omega arith
package_or_null-depth (Some linked) = package-depth linked

texts-depth : (pairs : List (List ℕ × List ℕ)) → members_depth (texts_members pairs) ≤ 0
texts-depth [] = omega arith
texts-depth (pair ∷ pairs) = omega (arith, texts-depth pairs)

patch-depth : (unused : List Identity) → depth (patch_json unused) ≤ 5
unfolding patch_json
patch-depth unused = omega (arith, dependencies-depth unused)

pub lockfile-depth : (file : FileData) (l : LockfileData) (packages : List LinkedData) (root : Option LinkedData)
    → depth (lockfile_json file l packages root) ≤ 7
unfolding document_json lockfile_json
lockfile-depth file l packages root = omega (
  arith,
  text-depth file.path,
  array-depth 5 listed_package_json package-depth packages,
  package_or_null-depth root,
  texts-depth (entries l.metadata),
  patch-depth l.patch,
)

-- a reader of JSON follows the document
pub reader-follows : (file : FileData) (l : LockfileData) (packages : List LinkedData)
    (root : Option LinkedData) → depth (lockfile_json file l packages root) ≤ 127
reader-follows file l packages root = omega (arith, lockfile-depth file l packages root)
