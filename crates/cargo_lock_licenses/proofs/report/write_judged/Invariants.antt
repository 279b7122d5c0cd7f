use Rattle.std.proofs.Common.{map, take}
use Rattle.std.specs.Fmt.{HasWritten, IsPlainFormatter}
use Rattle.cargo_lock_licenses.specs.Judged.{judged_of}
use Rattle.cargo_lock_licenses.specs.Report.{judged_text}
use Rattle.cargo_lock_licenses.proofs.report.write_judged.Given as goal

-- the lines of the judgements so far are written
abbrev pub invariant-loop-judged : goal.invariant-loop-judged
invariant-loop-judged g l = IsPlainFormatter l.initial.f → HasWritten g.W.Write.write_str_gives l.initial.f
    (judged_text (map judged_of (take l.judged-index l.all))) l.f
