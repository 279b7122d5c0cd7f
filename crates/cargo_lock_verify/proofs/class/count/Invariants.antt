use Rattle.std.proofs.Common.{◌≡◌, ◌≤◌, count_by, take}
use Rattle.cargo_lock_verify.specs.Class.{is_class}
use Rattle.cargo_lock_verify.proofs.class.count.Given as goal

-- how many of the classes so far are this one
abbrev pub invariant-loop-one : goal.invariant-loop-one
invariant-loop-one l = (l.number ≡ count_by (is_class l.class) (take l.one-index l.classes)) × (l.number ≤ l.one-index)
