use Rattle.std.proofs.Common.{take}
use Rattle.std.specs.Fmt.{HasWritten, IsPlainFormatter}
use Rattle.cargo_lock_audit.specs.Lines.{or_texts}
use Rattle.cargo_lock_audit.proofs.finding.write_others.Given as goal

-- the requirements so far are written
abbrev pub invariant-loop-requirement : goal.invariant-loop-requirement
invariant-loop-requirement g l = IsPlainFormatter l.initial.f → HasWritten g.W.Write.write_str_gives l.initial.f
    (or_texts (take l.requirement-index l.requirements)) l.f
