use Rattle.std.proofs.Common.{map, take}
use Rattle.std.specs.Fmt.{HasWritten, IsPlainFormatter}
use Rattle.cargo_lock_diff.specs.Change.{change_of, changes_by}
use Rattle.cli_lockfile_commands.proofs.diff.write_changes.Given as goal

abbrev pub invariant-loop-change : goal.invariant-loop-change
invariant-loop-change g l = IsPlainFormatter l.initial.f → HasWritten g.W.Write.write_str_gives l.initial.f
    (changes_by l.commits (map change_of (take l.change-index l.changes))) l.f
