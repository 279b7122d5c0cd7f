-- What contracts see of a lockfile, and of a lockfile as its table has it.
use Rattle.std.specs.Prelude.{ℤ, pos, negsuc, ◌==◌, Bool, false, List, Option, Some, None}
use Rattle.cargo_lock_parts.specs.Identity.{Identity, PackageData}
use Rattle.cargo_lock_references.specs.declared.version.ResolveVersion.{ResolveVersion}
use Rattle.cargo_lock_references.specs.Format.{format_by}
use Rattle.cargo_lock_references.specs.Records.{EncodedPackage, Texts}

-- a lockfile as its table has it: its number, packages, root, metadata and unused patches
pub record EncodedData : Type 0 where
  pub version : Option ℤ
  pub packages : List EncodedPackage
  pub root : Option EncodedPackage
  pub metadata : Texts
  pub patch : List Identity

-- a lockfile: its format, packages, root, metadata and unused patches
pub record LockfileData : Type 0 where
  pub version : ResolveVersion
  pub packages : List PackageData
  pub root : Option PackageData
  pub metadata : Texts
  pub patch : List Identity

-- the format of the values of a table
abbrev pub format_of : EncodedData → Option ResolveVersion
format_of e = format_by e.version e.packages e.metadata

-- the references of git sources are escaped if the number of the table is that of V4
abbrev pub is_escaped_number : Option ℤ → Bool
is_escaped_number None = false
is_escaped_number (Some (negsuc n)) = false
is_escaped_number (Some (pos n)) = n == 4
