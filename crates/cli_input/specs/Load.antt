-- Lockfiles that are read, their graphs, and why a lockfile is not read.
use Rattle.std.specs.Prelude.{◌≡◌, ◌≢◌, ◌⊎◌, ℕ, List, None, Some, string_bytes}
use Rattle.std.specs.declared.io.ErrorKind.TheVariants.{OutOfMemory}
use Rattle.clap.specs.declared.parser.matches.Found.{Found}
use Rattle.cargo_lock.specs.CargoChecksums.{with_cargo_checksums_in}
use Rattle.cargo_lock.specs.Loads.{IsMeant, IsOfFile}
use Rattle.cargo_lock_encoding.specs.Lockfiles.{LockfileData}
use Rattle.cargo_lock_encoding.specs.Means.{TextMeans}
use Rattle.cargo_lock_references.specs.declared.version.ResolveVersion.{ResolveVersion}
use Rattle.cargo_lock_parts.specs.Error.{IsLong, RefusesUrls}
use Rattle.cargo_lock_parts.specs.declared.error.Error.{Error}
use Rattle.cargo_lock_parts.specs.declared.error.Error.TheVariants.{Io, Memory}
use Rattle.cargo_lock_table_flaws.specs.Marks.{conflict_mark_line}
use Rattle.cargo_lock_graph.specs.Edges.{GraphData}
use Rattle.cargo_lock_graph.specs.Targets.{AreEdgesOf, IsUnresolved, links}
use Rattle.cargo_lock_edges.specs.OwnGraph.{IsOwnGraph}
use Rattle.cli_support.specs.declared.fault.Fault.{Fault}
use Rattle.cli_support.specs.declared.fault.Fault.TheVariants.{ConflictMarks, File, FileAfter}
use Rattle.cli_support.specs.declared.fault.Fault.TheVariants.{Library, TooLarge, TooLongVersions}
use Rattle.cli_support.specs.Input.{IsInputShown}
use Rattle.cli_input.specs.Limit.{IsAtLimit, IsInLimit}

-- the error for a lockfile of this argument: the file is too long, the system does not read it, it
-- is not a lockfile or beyond the limit, or memory ran out
abbrev pub IsOfLockfileUnnamed : List ℕ → Fault → Type 0
IsOfLockfileUnnamed argument (TooLarge name) = IsInputShown argument (string_bytes name)
IsOfLockfileUnnamed argument (TooLongVersions name) = IsInputShown argument (string_bytes name)
IsOfLockfileUnnamed argument (Library error) = IsOfFile error
IsOfLockfileUnnamed argument other = ⊥

-- the same with the name of the file, unless memory ran out
abbrev pub IsOfLockfile : List ℕ → Fault → Type 0
IsOfLockfile argument (TooLarge name) = IsInputShown argument (string_bytes name)
IsOfLockfile argument (TooLongVersions name) = IsInputShown argument (string_bytes name)
IsOfLockfile argument (FileAfter name error) = IsInputShown argument (string_bytes name)
    × IsOfFile error
IsOfLockfile argument (Library Memory) = Unit {0}
IsOfLockfile argument other = ⊥

-- the error for a text that is no lockfile, of the file of this argument, where the library says
-- this error: the first line with a mark of a conflict, in a text that is no TOML, and where there
-- is none that error, with the name of the file; or memory ran out
abbrev pub IsReadingFault : List ℕ → List ℕ → Error → Fault → Type 0
IsReadingFault argument text error (ConflictMarks name line) =
    IsInputShown argument (string_bytes name) × (conflict_mark_line text ≡ Some line)
IsReadingFault argument text error (File name said) = IsInputShown argument (string_bytes name)
    × (conflict_mark_line text ≡ None) × (said ≡ error)
IsReadingFault argument text error (Library Memory) = Unit {0}
IsReadingFault argument text error other = ⊥

-- the library refuses the text with this error: it means no lockfile, it is one of 2^28 bytes or more
-- with a URL of 4 GB or more, or memory ran out
abbrev pub IsRefusedAs : List ℕ → Error → Type 0
IsRefusedAs text error = RefusesUrls (IsLong text) error ((l : LockfileData) → ¬ TextMeans text l)

-- the error for a text of the file of this argument: it is beyond the limit, or no lockfile
abbrev pub IsTextFault : List ℕ → List ℕ → Fault → Type 0
IsTextFault argument text (TooLongVersions name) = IsInputShown argument (string_bytes name)
IsTextFault argument text fault = (error : Error) × IsRefusedAs text error
    × IsReadingFault argument text error fault

-- the error where the text of the file of this argument is not read: the file is too long, or the
-- system does not read it; or memory ran out
abbrev pub IsUnreadFault : List ℕ → Fault → Type 0
IsUnreadFault argument (TooLarge name) = IsInputShown argument (string_bytes name)
IsUnreadFault argument (File name (Io kind)) = IsInputShown argument (string_bytes name)
    × (kind ≢ OutOfMemory)
IsUnreadFault argument (Library Memory) = Unit {0}
IsUnreadFault argument other = ⊥

-- the error for a lockfile of this argument, which has its name: no text is read, or the one that is
-- read is beyond the limit or no lockfile
abbrev pub IsNamedFault : Found → List ℕ → Fault → Type 0
IsNamedFault found argument fault = IsUnreadFault argument fault
    ⊎ ((text : List ℕ) × IsTextFault argument text fault × IsAtLimit found text fault)

-- the lockfile is one that some text means, with the checksums that Cargo reads
abbrev pub IsMeantWithCargoChecksums : LockfileData → Type 0
IsMeantWithCargoChecksums x = (l : LockfileData) × IsMeant l × (x ≡ with_cargo_checksums_in l)

-- the text means a lockfile, and this is that one with the checksums that Cargo reads
abbrev pub MeansWithCargoChecksums : List ℕ → LockfileData → Type 0
MeansWithCargoChecksums text x = (l : LockfileData) × TextMeans text l
    × (x ≡ with_cargo_checksums_in l)

-- the graph is that of the tree of a lockfile
pub record IsGraphOf (l : LockfileData) (graph : GraphData) : Type 0 where
  pub packages : graph.packages ≡ l.packages
  pub edges : AreEdgesOf l.packages graph.edges

-- the format is that of a lockfile that some text means, and the graph that of its packages, as their
-- dependencies lead
abbrev pub IsOwnGraphRead : ResolveVersion → GraphData → Type 0
IsOwnGraphRead format graph = (l : LockfileData) × IsMeant l × (l.version ≡ format)
    × IsOwnGraph l.packages graph

-- the error where a lockfile has no graph: memory ran out, or some dependency has no package
abbrev pub IsGraphRefused : LockfileData → Error → Type 0
IsGraphRefused l = IsUnresolved l.packages (links l.packages)

-- the same for a lockfile that some text means, and that is allowed
abbrev pub IsGraphFault : Found → Fault → Type 0
IsGraphFault found (Library error) = (l : LockfileData) × IsMeant l × IsInLimit found l
    × IsGraphRefused l error
IsGraphFault found other = ⊥
