-- What loading a file returns. No contract can say what the file holds.
use Rattle.std.specs.Prelude.{◌≢◌, ℕ, List}
use Rattle.std.specs.declared.io.ErrorKind.TheVariants.{OutOfMemory}
use Rattle.cargo_lock_parts.specs.declared.error.Error.{Error}
use Rattle.cargo_lock_parts.specs.declared.error.Error.TheVariants.{Io, Parse, Memory}
use Rattle.cargo_lock_parts.specs.Error.{IsLong, RefusesUrls}
use Rattle.cargo_lock_encoding.specs.Means.{TextMeans}
use Rattle.cargo_lock_encoding.specs.Lockfiles.{LockfileData}

-- some text means the lockfile
abbrev pub IsMeant : LockfileData → Type 0
IsMeant l = (text : List ℕ) × TextMeans text l

-- the error of a file, which never says that memory ran out; the error of some text that means no
-- lockfile, or of one of 2^28 bytes or more with a URL of 4 GB or more; or `Memory`
abbrev pub IsOfFile : Error → Type 0
IsOfFile (Io kind) = kind ≢ OutOfMemory
IsOfFile (Parse message) = (text : List ℕ)
    × RefusesUrls (IsLong text) (Parse message) ((l : LockfileData) → ¬ TextMeans text l)
IsOfFile Memory = Unit {0}
IsOfFile other = ⊥
