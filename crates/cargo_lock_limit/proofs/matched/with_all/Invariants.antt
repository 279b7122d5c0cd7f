use Rattle.std.proofs.Common.{◌≡◌, ◌+◌, take}
use Rattle.cargo_lock_limit.specs.Lengths.{capped}
use Rattle.cargo_lock_limit.specs.Matched.{matched_by_all}
use Rattle.cargo_lock_limit.proofs.matched.with_all.Given as goal

-- the number with those so far
abbrev pub invariant-loop-package : goal.invariant-loop-package
invariant-loop-package l = l.total ≡ capped (l.number + matched_by_all l.list (take l.package-index l.packages))
