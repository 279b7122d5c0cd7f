-- What is audited.
use Rattle.std.specs.Prelude.{List, Option, None, Some}
use Rattle.std.specs.Option.{option_copied}
use Rattle.cargo_lock_parts.specs.Identity.{PackageData}
use Rattle.cargo_lock_audit.specs.declared.audited.Audited.{Audited}

-- the packages of a lockfile, and those of an older one, if there is one
pub record AuditedData : Type 0 where
  pub packages : List PackageData
  pub older : Option (List PackageData)

-- the data of what the program audits
abbrev pub audited_of : Audited → AuditedData
audited_of a = record { packages = a.packages.now; older = option_copied a.older }

-- the packages alone, and the packages since an older lockfile
abbrev pub alone : List PackageData → AuditedData
alone packages = record { packages = packages; older = None }

abbrev pub since : List PackageData → List PackageData → AuditedData
since packages older = record { packages = packages; older = Some older }
