use Rattle.std.proofs.Common.{take}
use Rattle.std.specs.Fmt.{HasWritten, IsPlainFormatter}
use Rattle.cargo_lock_diff.specs.Change.{signed_texts}
use Rattle.cargo_lock_diff.specs.Difference.{dependencies_at}
use Rattle.cargo_lock_diff.proofs.parts.SignedDisplay.fmt.Given as goal

abbrev pub invariant-loop-dependency : goal.invariant-loop-dependency
invariant-loop-dependency g l = IsPlainFormatter l.initial.f → HasWritten g.W.Write.write_str_gives l.initial.f
    (signed_texts l.is_old (dependencies_at (take l.dependency-index l.dependency-items))) l.f
