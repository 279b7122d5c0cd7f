use Rattle.std.proofs.Common.{ℕ, List}
use Rattle.std.specs.Io.KnownBytes.{Consumes}
use Rattle.sha2.specs.Hashers.{Holds256}
use Rattle.cargo_lock_verify.proofs.hashing.digest.Given as goal

-- the hasher holds what the reader has given
abbrev pub invariant-loop : goal.invariant-loop
invariant-loop g l = (m : List ℕ) × Holds256 l.hasher m × Consumes (g.R.Read.remaining l.initial.reader) (g.R.Read.remaining l.reader) m
