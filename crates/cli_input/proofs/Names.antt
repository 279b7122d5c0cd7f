-- Errors with the name of their file.
use Rattle.std.proofs.Common.{◌≡◌, ◌⊎◌, ℕ, List, None, String, inl, inr, refl, string_bytes}
use Rattle.std.specs.declared.alloc.Global.{Global}
use Rattle.cargo_lock_encoding.specs.Lockfiles.{LockfileData}
use Rattle.cargo_lock_encoding.specs.Means.{TextMeans}
use Rattle.cargo_lock_parts.specs.Error.{IsLong, RefusesUrls}
use Rattle.cargo_lock_parts.specs.declared.error.Error.{Error}
use Rattle.cargo_lock_parts.specs.declared.error.Error.TheVariants.{Io, Memory, Parse, Resolution, Version}
use Rattle.cargo_lock_table_flaws.specs.Marks.{conflict_mark_line}
use Rattle.cli_support.specs.Fault.{in_file, with_file_first}
use Rattle.cli_support.specs.Input.{IsInputShown, IsOfReading}
use Rattle.cli_support.specs.declared.fault.Fault.{Fault}
use Rattle.cli_support.specs.declared.fault.Fault.TheVariants.{Library, TooLarge, TooLongVersions}
use Rattle.clap.specs.declared.parser.matches.Found.{Found}
use Rattle.cli_input.specs.Limit.{IsAtLimit, IsBeyondFault, IsBeyondLimit}
use Rattle.cli_input.specs.Load.{IsNamedFault, IsOfLockfile, IsOfLockfileUnnamed, IsReadingFault, IsRefusedAs, IsTextFault, IsUnreadFault}

-- the error of a lockfile is one of that lockfile with the name of its file
pub named-of-lockfile : (argument : List ℕ) (name : String Global) (fault : Fault) → IsInputShown argument (string_bytes name) → IsOfLockfileUnnamed argument fault → IsOfLockfile argument (in_file name fault)
named-of-lockfile argument name (Library Memory) shown h = tt
named-of-lockfile argument name (Library (Io kind)) shown h = (shown, h)
named-of-lockfile argument name (Library (Parse message)) shown h = (shown, h)
named-of-lockfile argument name (Library (Version fault)) shown h = (shown, h)
named-of-lockfile argument name (Library (Resolution message)) shown h = (shown, h)
named-of-lockfile argument name (TooLarge text) shown h = h
named-of-lockfile argument name (TooLongVersions text) shown h = h
named-of-lockfile argument name other shown h = absurd h

-- the error of the library with the name of its file first
pub named-refusal : (argument text : List ℕ) (name : String Global) (error : Error) → IsInputShown argument (string_bytes name) → conflict_mark_line text ≡ None
    → IsReadingFault argument text error (with_file_first (in_file name (Library error)))
named-refusal argument text name Memory shown none = tt
named-refusal argument text name (Io kind) shown none = (shown, none, refl)
named-refusal argument text name (Parse message) shown none = (shown, none, refl)
named-refusal argument text name (Version fault) shown none = (shown, none, refl)
named-refusal argument text name (Resolution message) shown none = (shown, none, refl)

-- the error for a text that means no lockfile is one of a lockfile
pub refused-unnamed : (argument text : List ℕ) (error : Error) → RefusesUrls (IsLong text) error ((l : LockfileData) → ¬ TextMeans text l) → IsOfLockfileUnnamed argument (Library error)
refused-unnamed argument text (Parse message) h = (text, h)
refused-unnamed argument text Memory h = tt
refused-unnamed argument text (Io kind) h = absurd h
refused-unnamed argument text (Version fault) h = absurd h
refused-unnamed argument text (Resolution message) h = absurd h

-- ---- the limit

-- the error for a text beyond the limit is one of a lockfile
pub beyond-unnamed : (argument : List ℕ) (fault : Fault) → IsBeyondFault argument fault → IsOfLockfileUnnamed argument fault
beyond-unnamed argument (TooLongVersions name) h = h
beyond-unnamed argument (Library Memory) h = tt
beyond-unnamed argument (Library (Io kind)) h = absurd h
beyond-unnamed argument (Library (Parse message)) h = absurd h
beyond-unnamed argument (Library (Version fault)) h = absurd h
beyond-unnamed argument (Library (Resolution message)) h = absurd h
beyond-unnamed argument other h = absurd h

-- and one of a text
pub beyond-text : (argument text : List ℕ) (fault : Fault) → IsBeyondFault argument fault → IsTextFault argument text fault
beyond-text argument text (TooLongVersions name) h = h
beyond-text argument text (Library Memory) h = (Memory, tt, tt)
beyond-text argument text (Library (Io kind)) h = absurd h
beyond-text argument text (Library (Parse message)) h = absurd h
beyond-text argument text (Library (Version fault)) h = absurd h
beyond-text argument text (Library (Resolution message)) h = absurd h
beyond-text argument text other h = absurd h

-- it comes for a text that is refused
pub beyond-limit : (found : Found) (argument text : List ℕ) (fault : Fault) → IsBeyondLimit found text → IsBeyondFault argument fault → IsAtLimit found text fault
beyond-limit found argument text (TooLongVersions name) refused h = refused
beyond-limit found argument text other refused h = tt

-- the error for a text that is no lockfile is one of a text
pub reading-text : (argument text : List ℕ) (error : Error) (fault : Fault) → IsRefusedAs text error → IsReadingFault argument text error fault → IsTextFault argument text fault
reading-text argument text error (TooLongVersions name) refused h = absurd h
reading-text argument text error other refused h = (error, refused, h)

-- and none of the limit
pub reading-limit : (found : Found) (argument text : List ℕ) (error : Error) (fault : Fault) → IsReadingFault argument text error fault → IsAtLimit found text fault
reading-limit found argument text error (TooLongVersions name) h = absurd h
reading-limit found argument text error other h = tt

-- ---- a lockfile with its name

-- the error of reading but for that of a length, with this name of the file first
pub unread-named : (argument name : List ℕ) (path : String Global) (fault : Fault) → ((text : String Global) → ¬ (fault ≡ TooLarge text))
    → IsInputShown name (string_bytes path) → IsOfReading fault argument → IsUnreadFault name (with_file_first (in_file path fault))
unread-named argument name path (Library Memory) short shown h = tt
unread-named argument name path (Library (Io kind)) short shown h = (shown, h)
unread-named argument name path (TooLarge text) short shown h = absurd (short text refl)
unread-named argument name path other short shown h = absurd h

-- an error of reading is one of a lockfile with its name
pub unread-fault : (found : Found) (argument : List ℕ) (fault : Fault) → IsUnreadFault argument fault → IsNamedFault found argument fault
unread-fault found argument fault h = inl h

-- and so is an error of a text
pub text-fault : (found : Found) (argument text : List ℕ) (fault : Fault) → IsTextFault argument text fault → IsAtLimit found text fault
    → IsNamedFault found argument fault
text-fault found argument text fault of at = inr (text, of, at)
