-- How a command ends.
use Rattle.std.specs.Prelude.{◌≡◌, ℕ, List, [], string_bytes}
use Rattle.std.specs.Process.{exit_status}
use Rattle.std.specs.declared.process.ExitCode.{ExitCode}
use Rattle.std.specs.declared.process.TheConstants.ExitCode.{FAILURE, SUCCESS}
use Rattle.cli.specs.declared.ending.Ended.{Ended}
use Rattle.cli.specs.declared.ending.Ended.TheVariants.{Failed, Found, FoundNothing, Silent}
use Rattle.cli.specs.declared.ending.Ended.TheVariants.{WithLines}
use Rattle.cli.specs.declared.ending.Reader.{Reader}
use Rattle.cli.specs.declared.ending.Reader.TheVariants.{Person}

-- the status with which a command ends
abbrev pub status_in : Ended → ExitCode
status_in (Silent status) = status
status_in (WithLines status lines) = status
status_in (Found line) = FAILURE
status_in (FoundNothing line) = SUCCESS
status_in (Failed status faults line) = status

-- with the faults of lockfiles, the status is that of a fault
abbrev pub IsEnd : Ended → Type 0
IsEnd (Failed status faults line) = exit_status status ≡ 2
IsEnd other = Unit {0}

-- the line of counts with which it ends
abbrev pub counts_in : Ended → List ℕ
counts_in (Silent status) = []
counts_in (WithLines status lines) = []
counts_in (Found line) = string_bytes line
counts_in (FoundNothing line) = string_bytes line
counts_in (Failed status faults line) = string_bytes line

-- its line of counts is for this reader: of findings and of faults for each one, and otherwise for a
-- person
abbrev pub IsCountedFor : Reader → Ended → Type 0
IsCountedFor reader (Found line) = Unit {0}
IsCountedFor reader (FoundNothing line) = reader ≡ Person
IsCountedFor reader (Failed status faults line) = exit_status status ≡ 2
IsCountedFor reader other = ⊥
