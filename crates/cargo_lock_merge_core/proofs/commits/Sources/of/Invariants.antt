use Rattle.std.proofs.Common.{take}
use Rattle.cargo_lock_merge_core.specs.CommitMaps.{AreCommitsOf}
use Rattle.cargo_lock_merge_core.specs.Numbered.{all_data}
use Rattle.cargo_lock_merge_core.specs.Placed.{contents_of}
use Rattle.cargo_lock_merge_core.proofs.commits.Sources.of.Given as goal

-- the commits of the packages so far
abbrev pub invariant-loop-package : goal.invariant-loop-package
invariant-loop-package l = AreCommitsOf (contents_of (all_data (take l.package-index l.packages))) l.commits
