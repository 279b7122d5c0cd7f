-- What a sink took, and how often it failed. The bytes that a sink took are known or not: if they
-- are not, `Appends` and `Keeps` say nothing.
use Rattle.std.specs.Prelude.{◌≡◌, ℕ, ◌+◌, ◌-◌, ◌^◌, ◌<◌, ◌≤◌, List, ◌++◌, length, take, Option}
use Rattle.std.specs.Prelude.{Result, Ok, Err}
use Rattle.std.specs.Io.KnownBytes.{Appends, Keeps}
use Rattle.cargo_lock_parts.specs.declared.error.Error.{Error}
use Rattle.cargo_lock_parts.specs.declared.error.Error.TheVariants.{Io, Memory}

-- the count of faults can grow by one
abbrev pub CanCountFault : ℕ → Type 0
CanCountFault faults = faults < 2 ^ 64 - 1

-- The state after `put` of bytes: at Ok(n) the first n of them are taken, at least one, and no
-- error is counted. Otherwise nothing is taken and one error is counted.
abbrev pub IsPut : {E : Type 0} → Option (List ℕ) → Option (List ℕ) → ℕ → ℕ → List ℕ → Result ℕ E
    → Type 0
IsPut old new before after bytes (Ok n) = (0 < n) × (n ≤ length bytes)
    × Appends old new (take n bytes) × (after ≡ before)
IsPut old new before after bytes (Err e) = Keeps old new × (after ≡ before + 1)

-- the bytes that a sink took, if they are known, and how often it failed
pub record SinkState : Type 0 where
  pub bytes : Option (List ℕ)
  pub faults : ℕ

-- what a sink or a writer took, how often it failed, and which borrow of it this is
pub record Taken : Type 0 where
  pub bytes : Option (List ℕ)
  pub failures : ℕ
  pub borrow : ℕ

-- it is of the same borrow and has failed as often
abbrev pub IsSound : Taken → Taken → Type 0
IsSound old new = (new.failures ≡ old.failures) × (new.borrow ≡ old.borrow)

-- it is of the same borrow and has failed once more
abbrev pub HasFault : Taken → Taken → Type 0
HasFault old new = (new.failures ≡ old.failures + 1) × (new.borrow ≡ old.borrow)

-- the state after `put` of bytes, as in `IsPut`
abbrev pub IsTaken : {E : Type 0} → Taken → Taken → List ℕ → Result ℕ E → Type 0
IsTaken old new bytes (Ok n) = (0 < n) × (n ≤ length bytes)
    × Appends old.bytes new.bytes (take n bytes) × IsSound old new
IsTaken old new bytes (Err e) = Keeps old.bytes new.bytes × HasFault old new

-- a prefix of a text was taken, and one error was counted
abbrev pub HasFailed : Taken → Taken → List ℕ → Type 0
HasFailed old new text =
    ((front rest : List ℕ) × (text ≡ front ++ rest) × Appends old.bytes new.bytes front)
    × HasFault old new

-- at Ok all of a text was taken and no error was counted, otherwise a prefix and one error
abbrev pub IsWritten : {T E : Type 0} → Taken → Taken → List ℕ → Result T E → Type 0
IsWritten old new text (Ok _) = Appends old.bytes new.bytes text × IsSound old new
IsWritten old new text (Err e) = HasFailed old new text

-- The state after a text is rendered: at Ok all of it was taken and no error was counted. At Io a
-- prefix was taken and one error was counted. At Memory nothing was taken and no error was counted.
-- There is no other result.
abbrev pub IsRendered : {T : Type 0} → Taken → Taken → List ℕ → Result T Error → Type 0
IsRendered old new text (Ok _) = Appends old.bytes new.bytes text × IsSound old new
IsRendered old new text (Err (Io kind)) = HasFailed old new text
IsRendered old new text (Err Memory) = Keeps old.bytes new.bytes × IsSound old new
IsRendered old new text (Err other) = ⊥

-- The same for a sink, by the bytes that it took and its count of errors.
abbrev pub IsRenderedInto : {T : Type 0} → Option (List ℕ) → Option (List ℕ) → ℕ → ℕ → List ℕ
    → Result T Error → Type 0
IsRenderedInto old new before after text (Ok _) = Appends old new text × (after ≡ before)
IsRenderedInto old new before after text (Err (Io kind)) =
    ((front rest : List ℕ) × (text ≡ front ++ rest) × Appends old new front) × (after ≡ before + 1)
IsRenderedInto old new before after text (Err Memory) = Keeps old new × (after ≡ before)
IsRenderedInto old new before after text (Err other) = ⊥

-- The same for a writer, which has no count of errors.
abbrev pub IsRenderedTo : {T : Type 0} → Option (List ℕ) → Option (List ℕ) → List ℕ → Result T Error
    → Type 0
IsRenderedTo old new text (Ok _) = Appends old new text
IsRenderedTo old new text (Err (Io kind)) = (front rest : List ℕ) × (text ≡ front ++ rest)
    × Appends old new front
IsRenderedTo old new text (Err Memory) = Keeps old new
IsRenderedTo old new text (Err other) = ⊥
