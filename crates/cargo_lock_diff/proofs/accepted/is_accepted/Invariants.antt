use Rattle.std.proofs.Common.{◌≡◌, false, take}
use Rattle.std.specs.List.{list_any}
use Rattle.cargo_lock_diff.specs.Accepted.{accepts}
use Rattle.cargo_lock_diff.proofs.accepted.is_accepted.Given as goal

-- none so far accepts the source
abbrev pub invariant-loop-one : goal.invariant-loop-one
invariant-loop-one l = list_any (λ a. accepts a l.source) (take l.one-index l.accepted) ≡ false
