-- The depth of lockfiles, sources, packages and lists in JSON.
use Rattle.std.proofs.Common.{◌+◌, ◌≤◌, ℕ, List, Option, None, Some, arith, map, option_map, true}
use Rattle.json.specs.Json.{Json, array}
use Rattle.json.specs.Tree.{depth}
use Rattle.cargo_lock_parts.specs.Checksum.{digest_text}
use Rattle.cargo_lock_parts.specs.Identity.{Identity, PackageData, identity_of}
use Rattle.cargo_lock_parts.specs.Source.{Kind, Source, DefaultBranch, Tag, Branch, Rev, Git, Path, Registry, SparseRegistry, LocalRegistry, Directory}
use Rattle.cargo_lock_parts.specs.SourceKey.{precise_if_git}
use Rattle.cargo_lock_parts.specs.SourceText.{text_of}
use Rattle.cargo_lock_display.specs.File.{FileData, document_json, file_json, list_document}
use Rattle.cargo_lock_display.specs.PackageJson.{dependency_json, identity_json, package_or_null}
use Rattle.cargo_lock_display.specs.SourceJson.{origin_json, origin_or_null, reference_json, reference_or_null}
use Rattle.printing.proofs.Depth.{array-depth, text-depth}
use Rattle.printing.specs.Json.{items_of}

pub file-depth : (f : FileData) → depth (file_json f) ≤ 1
unfolding file_json
file-depth f = omega (arith, text-depth f.path)

reference-depth : (k : Kind) → depth (reference_or_null k) ≤ 1
unfolding reference_json
reference-depth (Git DefaultBranch) = omega arith
reference-depth (Git (Tag value)) = omega arith
reference-depth (Git (Branch value)) = omega arith
reference-depth (Git (Rev value)) = omega arith
reference-depth Path = omega arith
reference-depth Registry = omega arith
reference-depth SparseRegistry = omega arith
reference-depth LocalRegistry = omega arith
reference-depth Directory = omega arith

pub origin-depth : (s : Option Source) → depth (origin_or_null s) ≤ 2
unfolding origin_json
origin-depth None = omega arith
origin-depth (Some s) = omega (arith, reference-depth s.kind, text-depth (precise_if_git s.kind s.precise))

pub identity-depth : (i : Identity) (checksum : Option (List ℕ))
    → depth (identity_json i checksum) ≤ 3
unfolding identity_json
identity-depth i checksum = omega (
  arith,
  text-depth (option_map (text_of true) i.source),
  origin-depth i.source,
  text-depth (option_map digest_text checksum),
)

pub package-depth : (p : Option PackageData) → depth (package_or_null p) ≤ 3
package-depth None = omega arith
package-depth (Some p) = identity-depth (identity_of p) p.checksum

pub dependencies-depth : (ds : List Identity) → depth (array (items_of (map dependency_json ds))) ≤ 4
dependencies-depth = array-depth 3 dependency_json (λ d. identity-depth d None)

-- the document about one lockfile whose last member is a list
pub list-depth : {A : Type 0} (schema : List ℕ) (f : FileData) (name : List ℕ) (deep : ℕ)
    (json : A → Json) → ((x : A) → depth (json x) ≤ deep) → (xs : List A)
    → depth (list_document schema f name (map json xs)) ≤ deep + 2
unfolding document_json list_document
list-depth schema f name deep json each xs =
    omega (arith, text-depth f.path, array-depth deep json each xs)
