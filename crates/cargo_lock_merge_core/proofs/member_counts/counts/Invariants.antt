use Rattle.std.proofs.Common.{take}
use Rattle.cargo_lock_merge_core.specs.Located.{AreCounts}
use Rattle.cargo_lock_merge_core.proofs.member_counts.counts.Given as goal

-- the packages so far are counted
abbrev pub invariant-loop-package : goal.invariant-loop-package
invariant-loop-package l = AreCounts (take l.package-index l.packages) l.counts
