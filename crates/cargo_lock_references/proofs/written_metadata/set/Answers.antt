use Rattle.cargo_lock_references.proofs.Texts.{inserted}
use Rattle.cargo_lock_references.proofs.written_metadata.set.Goals as goal

pub returns : goal.returns
returns c =
    inserted c.args.metadata.now c.insert.new.self c.args.key c.args.value c.in_ok-insert.ensures.updates
