use Rattle.cargo_lock_encoding.proofs.TableMetadata.{means_key_by_key, reads_key_by_key}
use Rattle.cargo_lock_encoding.proofs.laws.metadata_is_read_key_by_key.Goals as goal

pub returns-clause-means : goal.returns-clause-means
returns-clause-means c = means_key_by_key

pub returns-clause-reads : goal.returns-clause-reads
returns-clause-reads c = reads_key_by_key
