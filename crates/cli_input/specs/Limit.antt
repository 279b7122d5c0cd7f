-- The limit within which a lockfile is read: the versions of what its packages depend on have at
-- most 256 MiB together.
use Rattle.std.specs.Prelude.{ℕ, ◌^◌, List, codes, string_bytes}
use Rattle.clap.specs.declared.parser.matches.Found.{Found}
use Rattle.cargo_lock_encoding.specs.Lockfiles.{LockfileData}
use Rattle.cargo_lock_encoding.specs.Means.{TextMeans}
use Rattle.cargo_lock_limit.specs.Lengths.{IsBeyond}
use Rattle.cargo_lock_limit.specs.Limits.{AreBeyond}
use Rattle.cargo_lock_parts.specs.declared.error.Error.TheVariants.{Memory}
use Rattle.cli_support.specs.declared.fault.Fault.{Fault}
use Rattle.cli_support.specs.declared.fault.Fault.TheVariants.{Library, TooLongVersions}
use Rattle.cli_support.specs.Input.{IsInputShown}
use Rattle.cli_input.specs.Json.{IsAsked, IsUnasked}

-- 256 MiB
abbrev pub limit : ℕ
limit = 2 ^ 28

-- the lockfile is within the limit, unless the arguments lift it
abbrev pub IsInLimit : Found → LockfileData → Type 0
IsInLimit found l = IsUnasked found (codes "any-size") → ¬ IsBeyond limit l.packages

-- the text means the lockfile, which is allowed
pub record IsReadInLimit (found : Found) (text : List ℕ) (l : LockfileData) : Type 0 where
  pub means : TextMeans text l
  pub allowed : IsInLimit found l

-- the arguments do not lift the limit, and each lockfile that the text means is beyond it
pub record IsBeyondLimit (found : Found) (text : List ℕ) : Type 0 where
  pub unlifted : ¬ IsAsked found (codes "any-size")
  pub beyond : AreBeyond limit (TextMeans text)

-- the error for a text of the file of this argument that is beyond the limit, or memory ran out
abbrev pub IsBeyondFault : List ℕ → Fault → Type 0
IsBeyondFault argument (TooLongVersions name) = IsInputShown argument (string_bytes name)
IsBeyondFault argument (Library Memory) = Unit {0}
IsBeyondFault argument other = ⊥

-- the error that a text is beyond the limit comes only if it is refused
abbrev pub IsAtLimit : Found → List ℕ → Fault → Type 0
IsAtLimit found text (TooLongVersions name) = IsBeyondLimit found text
IsAtLimit found text other = Unit {0}
