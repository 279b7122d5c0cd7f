use Rattle.std.proofs.Common.{◌≡◌, ◌↔◌, ℕ, List, Option, Some, subst}
use Rattle.cargo_lock_parts.specs.SourceKey.{key_of}
use Rattle.cargo_lock_merge_core.specs.CommitMaps.{commit_if}
use Rattle.cargo_lock_merge_core.specs.Commits.{IsMergedCommit, Lockfiles}
use Rattle.cargo_lock_merge_core.proofs.Merging.{merged-is}
use Rattle.cargo_lock_merge_core.proofs.commits.Commits.merged.Goals as goal

pub returns : goal.returns
returns c =
    let g = key_of c.args.bare.now in
    let all : Lockfiles = record { base = c.self.inside.base; ours = c.self.inside.ours; theirs = c.self.inside.theirs } in
    let one = c.self.invariant in
    subst (λ (a : Lockfiles). (n : Option (List ℕ)) → IsMergedCommit a g n ↔ (commit_if c.merged_commit.result ≡ Some n)) c.self.view_is
    (merged-is all g (commit_if c.get-base.result) (commit_if c.get.result) (commit_if c.get-2.result)
    record { base = one.0; ours = one.1; theirs = one.2 }
    record { base = c.get-base.ensures; ours = c.get.ensures; theirs = c.get-2.ensures } c.merged_commit.result c.merged_commit.ensures)
