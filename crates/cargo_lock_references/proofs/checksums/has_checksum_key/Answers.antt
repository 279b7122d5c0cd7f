use Rattle.cargo_lock_references.specs.Metadata.{has_checksum_key}
use Rattle.cargo_lock_references.proofs.checksums.has_checksum_key.Goals as goal

pub returns : goal.returns
unfolding has_checksum_key
returns c = rw c.keys_ascend.ensures c.has_checksum_among.ensures
