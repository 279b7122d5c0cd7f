use Rattle.std.proofs.Common.{◌∙◌, sym}
use Rattle.cargo_lock_verify.specs.Archives.{archive_of, is_changed}
use Rattle.lists.proofs.Tests.{any-map}
use Rattle.cargo_lock_verify.proofs.judge.Judge.has_changed.Goals as goal

pub returns : goal.returns
returns c = c.is_one_changed.ensures
    ∙ sym (any-map archive_of (is_changed c.args.self.now.cache c.args.self.now.content) c.args.archives.now)
