use Rattle.std.proofs.Common.{map, take}
use Rattle.std.specs.Fmt.{HasWritten, IsPlainFormatter}
use Rattle.cargo_lock_licenses.specs.Judged.{judged_of}
use Rattle.cli_folder_commands.specs.Part.{sure_judged_lines}
use Rattle.cli_folder_commands.proofs.part.SureLicensesDisplay.fmt.Given as goal

-- the lines of what is said so far are written
abbrev pub invariant-loop-judged : goal.invariant-loop-judged
invariant-loop-judged g l = IsPlainFormatter l.initial.f → HasWritten g.W.Write.write_str_gives l.initial.f
    (sure_judged_lines (map judged_of (take l.judged-index l.judged-items))) l.f
