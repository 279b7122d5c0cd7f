use Rattle.std.proofs.Common.{◌≡◌, ◌+◌, take}
use Rattle.cargo_lock_limit.specs.Lengths.{capped}
use Rattle.cargo_lock_limit.specs.Matched.{matched_by_each}
use Rattle.cargo_lock_limit.proofs.matched.with_each.Given as goal

-- the number with those so far
abbrev pub invariant-loop-reference : goal.invariant-loop-reference
invariant-loop-reference l = l.total ≡ capped (l.number + matched_by_each l.list (take l.reference-index l.references))
