-- The numbers that are returned to callers, and the refusal that each error of the library becomes.
use Rattle.std.specs.Prelude.{ℕ}
use Rattle.cargo_lock_parts.specs.declared.error.Error.{Error}
use Rattle.cargo_lock_parts.specs.declared.error.Error.TheVariants.{Io, Parse, Version, Resolution}
use Rattle.cargo_lock_parts.specs.declared.error.Error.TheVariants.{Memory}
use Rattle.cargo_lock_c.specs.declared.refusal.Refusal.{Refusal}
use Rattle.cargo_lock_c.specs.declared.refusal.Refusal.TheVariants.{NoLockfile, NoText, NoMemory}
use Rattle.cargo_lock_c.specs.declared.refusal.Refusal.TheVariants.{NoFormat, Lost, Unresolved}
use Rattle.cargo_lock_c.specs.declared.refusal.Refusal.TheVariants.{NoPackage, NoLine}
use Rattle.cargo_lock_c.specs.declared.refusal.Refusal.TheVariants.{NoNewLockfile, NoNewText}
use Rattle.cargo_lock_c.specs.declared.refusal.Refusal.TheVariants.{Repeated, NothingFits, NoSpecText}
use Rattle.cargo_lock_c.specs.declared.refusal.Refusal.TheVariants.{NoThirdLockfile, NoThirdText}

-- the status of a call that returns no answer; 0 is that of an answer, 5 that of an answer that is
-- longer than the buffer, and 15 to 18 are those of texts about a merge that there is not
abbrev pub status_of : (refusal : Refusal) → ℕ
status_of NoLockfile = 1
status_of NoText = 2
status_of NoMemory = 3
status_of NoFormat = 4
status_of Lost = 6
status_of Unresolved = 7
status_of NoPackage = 8
status_of NoLine = 9
status_of NoNewLockfile = 10
status_of NoNewText = 11
status_of Repeated = 12
status_of NothingFits = 13
status_of NoSpecText = 14
status_of NoThirdLockfile = 19
status_of NoThirdText = 20

-- the refusal for the second of several texts, from that of reading one
abbrev pub refusal_of_new : Refusal → Refusal
refusal_of_new NoLockfile = NoNewLockfile
refusal_of_new NoText = NoNewText
refusal_of_new other = other

-- the refusal for the third of three texts, from that of reading one
abbrev pub refusal_of_third : Refusal → Refusal
refusal_of_third NoLockfile = NoThirdLockfile
refusal_of_third NoText = NoThirdText
refusal_of_third other = other

-- the refusal for an error of the library; reading a text and drawing into memory have no `Io` and
-- no `Version`
abbrev pub refusal_of : Error → Refusal
refusal_of (Io kind) = NoMemory
refusal_of (Parse said) = NoLockfile
refusal_of (Version fault) = NoLockfile
refusal_of (Resolution said) = Unresolved
refusal_of Memory = NoMemory

-- the refusal for an error of printing a bill: its `Parse` says that the same text would refer to
-- two packages
abbrev pub refusal_of_bill : Error → Refusal
refusal_of_bill (Parse said) = Repeated
refusal_of_bill other = refusal_of other
