use Rattle.std.proofs.Common.{◌∙◌, sym}
use Rattle.cargo_lock_references.proofs.Texts.{get-view}
use Rattle.cargo_lock.proofs.lockfile.checksums.value_of.Goals as goal

pub returns : goal.returns
returns c = c.get.ensures.value ∙ sym (get-view c.args.metadata.now c.args.key.now)
