use Rattle.std.proofs.Common.{take}
use Rattle.std.specs.Fmt.{HasWritten, IsPlainFormatter}
use Rattle.cargo_lock_merge.specs.Lines.{conflict_lines}
use Rattle.cargo_lock_merge.proofs.lines.write_conflicts.Given as goal

-- the lines so far
abbrev pub invariant-loop-conflict : goal.invariant-loop-conflict
invariant-loop-conflict g l =
    IsPlainFormatter l.initial.f → HasWritten g.W.Write.write_str_gives l.initial.f (conflict_lines (take l.conflict-index l.conflicts)) l.f
