use Rattle.std.proofs.Common.{◌≡◌, ◌∙◌, Some, ap, subst, sym, true}
use Rattle.cargo_lock_parts.specs.Source.{Source, is_git}
use Rattle.cargo_lock_parts.specs.Identity.{PackageData}
use Rattle.cargo_lock_parts.specs.SourceKey.{Key, key_of}
use Rattle.cargo_lock_merge_core.specs.declared.commits.SourceCommits.{SourceCommits}
use Rattle.cargo_lock_merge_core.specs.CommitMaps.{commit_if}
use Rattle.cargo_lock_edges.specs.Nearest.{key_without_commit}
use Rattle.cargo_lock_merge_core.specs.Commits.{AreCommits}
use Rattle.cargo_lock_merge_core.proofs.Merging.{bare-key}
use Rattle.cargo_lock_merge_core.proofs.Putting.{git-key}
use Rattle.cargo_lock_merge_core.proofs.commits.Commits.source_of.Goals as goal

pub returns-in_ok-bare-clause-ok : goal.returns-in_ok-bare-clause-ok
returns-in_ok-bare-clause-ok c =
    let s : Source = c.in-Some.source in
    let r : SourceCommits = c.commits_of.result in
    let p : PackageData = c.args.«package».now in
    let here : r.source.now ≡ s = c.commits_of.ensures.source in
    let is : p.source ≡ Some s = ap (λ (q : PackageData). q.source) (sym c.«package».view_is) ∙ c.in-Some.is in
    let git : is_git s.kind ≡ true = sym c.is_git.ensures ∙ c.if-is_git.true in
    let same : key_of c.in_ok-bare.bare ≡ key_without_commit r.source.now = bare-key s c.in_ok-bare.bare c.in_ok-bare.ensures.ok ∙ ap key_without_commit (sym here) in
    record {
      source = git-key p.source s is git ∙ ap Some (ap key_without_commit (sym here));
      commits = record {
        git = ap (λ (z : Source). is_git z.kind) here ∙ git;
        commits = subst (λ (k : Key). AreCommits c.args.self.now k (commit_if r.base) (commit_if r.ours) (commit_if r.theirs)) same c.commits_of.ensures.commits;
      };
      one = c.commits_of.ensures.one;
    }
