use Rattle.std.proofs.Common.{map, take}
use Rattle.std.specs.Fmt.{HasWritten, IsPlainFormatter}
use Rattle.cargo_lock_verify.specs.Vendored.{folder_finding_of}
use Rattle.cli_folder_commands.specs.Part.{sure_folder_lines}
use Rattle.cli_folder_commands.proofs.part.SureFoldersDisplay.fmt.Given as goal

-- the lines of the findings so far are written
abbrev pub invariant-loop-finding : goal.invariant-loop-finding
invariant-loop-finding g l = IsPlainFormatter l.initial.f → HasWritten g.W.Write.write_str_gives l.initial.f
    (sure_folder_lines (map folder_finding_of (take l.finding-index l.finding-items))) l.f
