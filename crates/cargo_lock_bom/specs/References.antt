-- The texts by which a bill of materials refers to packages, each to only one.
-- The form is that of the package ID specifications in the Cargo Book.
use Rattle.std.specs.Prelude.{◌≡◌, ◌≢◌, ℕ, false, List, ◌++◌, codes, map, take, slice_get, Contains}
use Rattle.std.specs.Prelude.{AllPairs, Option, Some, None, option_map, ◌⊎◌}
use Rattle.semver.specs.Identifiers.{parts_text}
use Rattle.cargo_lock_parts.specs.declared.error.Error.{Error}
use Rattle.cargo_lock_parts.specs.declared.error.Error.TheVariants.{Memory}
use Rattle.cargo_lock_parts.specs.Error.{IsParse}
use Rattle.cargo_lock_parts.specs.Identity.{Identity, PackageData, identity_of, dependency_text}
use Rattle.cargo_lock_parts.specs.Source.{Source}
use Rattle.cargo_lock_parts.specs.SourceText.{text_of}
use Rattle.cargo_lock_bom.specs.UserInfo.{public_identity, public_source}

-- `NAME@VERSION`, after the source and `#` if there is a source
abbrev pub reference_from : List ℕ → List ℕ → Option Source → List ℕ
reference_from name version None = name ++ (codes "@" ++ version)
reference_from name version (Some source) =
    text_of false source ++ (codes "#" ++ (name ++ (codes "@" ++ version)))

-- the text that refers to a package of this identity: its source has no user name and no password
abbrev pub identity_reference : Identity → List ℕ
identity_reference d =
    reference_from d.name (parts_text d.version) (option_map public_source d.source)

-- the text that refers to a package
abbrev pub package_reference : PackageData → List ℕ
package_reference p = identity_reference (identity_of p)

-- the text that refers to the packages of the workspace together; the text of a package has an `@`
abbrev pub workspace_reference : List ℕ
workspace_reference = codes "workspace"

-- no package has the text of the workspace
abbrev pub WorkspaceIsNoPackage : Type 0
WorkspaceIsNoPackage = (p : PackageData) → package_reference p ≢ workspace_reference

-- no two packages have the same text
abbrev pub HaveDistinctReferences : List PackageData → Type 0
HaveDistinctReferences packages = AllPairs (λ x y. x ≢ y) (map package_reference packages)

-- the package is at a place, and an earlier one has its text
pub record IsRepeatedReference (packages : List PackageData) (p : PackageData) : Type 0 where
  pub place : ℕ
  pub stands : slice_get packages place ≡ Some p
  pub earlier : Contains (map package_reference (take place packages)) (package_reference p)

-- the text of the error for such a package, without user name and password
abbrev pub repeated_text : PackageData → List ℕ
repeated_text p = codes "two packages are " ++ dependency_text (public_identity (identity_of p))

-- the error is `Memory`, or it is `Parse` and names a package whose text an earlier one has
abbrev pub IsRepeatedFault : List PackageData → Error → Type 0
IsRepeatedFault packages e = (e ≡ Memory)
    ⊎ ((p : PackageData) × IsRepeatedReference packages p × IsParse e (repeated_text p))
