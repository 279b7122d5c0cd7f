use Rattle.cargo_lock_parts.specs.SourceKey.{key_of}
use Rattle.cargo_lock_merge_core.proofs.Merging.{decides-commit, decides-no-commit}
use Rattle.cargo_lock_merge_core.proofs.commits.Commits.is_merged.Goals as goal

pub returns-in-Some : goal.returns-in-Some
returns-in-Some c =
    decides-commit c.args.self.now (key_of c.args.bare.now) c.merged.result c.in-Some.merged c.args.source.now.precise c.is_commit.result
    (c.merged.ensures c.args.source.now.precise) c.in-Some.is c.is_commit.ensures

pub returns-in-None : goal.returns-in-None
returns-in-None c =
    decides-no-commit c.args.self.now (key_of c.args.bare.now) c.merged.result c.args.source.now.precise
    (c.merged.ensures c.args.source.now.precise) c.in-None.is
