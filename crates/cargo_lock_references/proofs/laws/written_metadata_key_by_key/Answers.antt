use Rattle.cargo_lock_references.proofs.WrittenMetadata.{checksums_at_keys, no_checksum_keys}
use Rattle.cargo_lock_references.proofs.laws.written_metadata_key_by_key.Goals as goal

pub returns-clause-v1 : goal.returns-clause-v1
returns-clause-v1 c = checksums_at_keys

pub returns-clause-later : goal.returns-clause-later
returns-clause-later c = no_checksum_keys
