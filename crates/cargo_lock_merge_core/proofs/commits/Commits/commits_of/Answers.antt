use Rattle.std.proofs.Common.{subst}
use Rattle.cargo_lock_parts.specs.SourceKey.{key_of}
use Rattle.cargo_lock_merge_core.specs.CommitMaps.{commit_if}
use Rattle.cargo_lock_merge_core.specs.Commits.{AreCommits, Lockfiles}
use Rattle.cargo_lock_merge_core.specs.LawsOfMerges.{HaveOneCommitEach}
use Rattle.cargo_lock_merge_core.proofs.commits.Commits.commits_of.Goals as goal

pub returns-clause-commits : goal.returns-clause-commits
returns-clause-commits c =
    subst (λ (a : Lockfiles). AreCommits a (key_of c.args.bare.now) (commit_if c.get.result) (commit_if c.get-2.result) (commit_if c.get-3.result)) c.self.view_is
    record { base = c.get.ensures; ours = c.get-2.ensures; theirs = c.get-3.ensures }

pub returns-clause-one : goal.returns-clause-one
returns-clause-one c =
    let one = c.self.invariant in
    subst (λ (a : Lockfiles). HaveOneCommitEach a) c.self.view_is record { base = one.0; ours = one.1; theirs = one.2 }
