-- Files in the errors of the program.
use Rattle.std.specs.Prelude.{String}
use Rattle.std.specs.declared.alloc.Global.{Global}
use Rattle.cargo_lock_parts.specs.declared.error.Error.TheVariants.{Memory}
use Rattle.cli_support.specs.declared.fault.Fault.{Fault}
use Rattle.cli_support.specs.declared.fault.Fault.TheVariants.{File, FileAfter, Library}

-- an error of the library with the name of its file: memory that ran out is of no file
abbrev pub in_file : String Global → Fault → Fault
in_file name (Library Memory) = Library Memory
in_file name (Library error) = FileAfter name error
in_file name other = other

-- the same error with the name of the file before the words of the library
abbrev pub with_file_first : Fault → Fault
with_file_first (FileAfter name error) = File name error
with_file_first other = other
