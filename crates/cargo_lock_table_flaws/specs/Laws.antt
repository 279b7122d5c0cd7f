-- How what is found in a table is related to reading it.
use Rattle.std.specs.Prelude.{◌≡◌, ◌↔◌, [], IsSome, Some}
use Rattle.toml.specs.Data.{Members}
use Rattle.cargo_lock_encoding.specs.Lockfiles.{EncodedData, LockfileData, format_of}
use Rattle.cargo_lock_encoding.specs.Meaning.{lockfile_of}
use Rattle.cargo_lock_encoding.specs.Means.{Means}
use Rattle.cargo_lock_encoding.specs.TableReading.{encoded_at, identity_at, package_at_key}
use Rattle.cargo_lock_references.specs.declared.version.ResolveVersion.{ResolveVersion}
use Rattle.cargo_lock_table_flaws.specs.declared.finding.Place.{Place}
use Rattle.cargo_lock_table_flaws.specs.Report.{IsTableReport, TableReportData}
use Rattle.cargo_lock_table_flaws.specs.Unread.{unread_package, unread_patch, unread_values}
use Rattle.cargo_lock_table_flaws.specs.Unresolved.{unresolved_references}

-- the table of a package reads exactly if nothing in it is told, and so does that of a patch
pub record ReadIfNoneUnread : Type 0 where
  pub packages : (place : Place) (ms : Members)
      → IsSome (package_at_key ms) ↔ (unread_package place ms ≡ [])
  pub patches : (place : Place) (ms : Members)
      → IsSome (identity_at ms) ↔ (unread_patch place ms ≡ [])

-- where a table has values, nothing in it is told as unread
abbrev pub NoneUnreadIfRead : Type 0
NoneUnreadIfRead = (t : Members) (e : EncodedData) → encoded_at t ≡ Some e → unread_values t ≡ []

-- values with a format are those of a lockfile exactly if no reference of them is told
abbrev pub LockfileIfResolved : Type 0
LockfileIfResolved = (e : EncodedData) (format : ResolveVersion) → format_of e ≡ Some format
    → IsSome (lockfile_of e) ↔ (unresolved_references format e ≡ [])

-- a table that means a lockfile has no report
abbrev pub NoReportOfLockfile : Type 0
NoReportOfLockfile = (t : Members) (l : LockfileData) (r : TableReportData) → Means t l
    → ¬ IsTableReport t r
