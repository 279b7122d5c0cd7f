use Rattle.std.proofs.Common.{take}
use Rattle.cargo_lock_merge_core.specs.CommitMaps.{AreCommitsOf, AreSourcesOf}
use Rattle.cargo_lock_merge_core.specs.Commits.{HasOneCommitEach}
use Rattle.cargo_lock_merge_core.proofs.repositories.check_commits.Given as goal

-- the commits of the packages so far
abbrev pub invariant-loop-package : goal.invariant-loop-package
invariant-loop-package l = record {
  commits : AreCommitsOf (take l.package-index l.packages) l.commits;
  sources : AreSourcesOf (take l.package-index l.packages) l.commits;
  once : HasOneCommitEach (take l.package-index l.packages);
}
