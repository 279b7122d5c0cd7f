use Rattle.cargo_lock_references.proofs.Texts.{removed}
use Rattle.cargo_lock_references.proofs.written_metadata.remove_key.Goals as goal

pub returns : goal.returns
returns c = removed c.args.metadata.now c.remove.new.self c.args.key.now c.remove.ensures.updates
