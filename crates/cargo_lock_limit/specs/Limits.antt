-- Lockfiles within a limit, and beyond it.
use Rattle.std.specs.Prelude.{ℕ}
use Rattle.cargo_lock_encoding.specs.Lockfiles.{LockfileData}
use Rattle.cargo_lock_limit.specs.Lengths.{IsBeyond}

-- P holds of the lockfile, which is not beyond the limit
pub record HoldsWithin (limit : ℕ) (P : LockfileData → Type 0) (l : LockfileData) : Type 0 where
  pub holds : P l
  pub within : ¬ IsBeyond limit l.packages

-- each lockfile of which P holds is beyond the limit
abbrev pub AreBeyond : ℕ → (LockfileData → Type 0) → Type 0
AreBeyond limit P = (l : LockfileData) → P l → IsBeyond limit l.packages
