use Rattle.std.proofs.Common.{◌≡◌, ◌≤◌, count_by, map, take}
use Rattle.cargo_lock_diff.specs.Change.{change_of}
use Rattle.cargo_lock_diff.specs.Summary.{is_of_kind}
use Rattle.cargo_lock_diff.proofs.summary.count.Given as goal

abbrev pub invariant-loop-change : goal.invariant-loop-change
invariant-loop-change l = (l.number ≡ count_by (is_of_kind l.kind) (map change_of (take l.change-index l.changes))) × (l.number ≤ l.change-index)
