use Rattle.std.proofs.Common.{◌∙◌, sym}
use Rattle.cargo_lock_merge_core.proofs.Merging.{decides-source}
use Rattle.cargo_lock_merge_core.proofs.commits.Commits.has_source.Goals as goal

pub returns-in_ok-bare-clause-ok : goal.returns-in_ok-bare-clause-ok
returns-in_ok-bare-clause-ok c =
    decides-source c.args.self.now c.args.source.now c.in_ok-bare.bare c.is_merged.result c.in_ok-bare.ensures.ok (sym c.is_git.ensures ∙ c.if-is_git.true) c.is_merged.ensures
