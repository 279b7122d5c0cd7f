use Rattle.cargo_lock_references.proofs.Texts.{entries-of}
use Rattle.cargo_lock_references.proofs.checksums.keys_ascend.Goals as goal

pub returns : goal.returns
returns c = entries-of c.args.metadata.now.entries c.len-length.ensures.ordered
