use Rattle.std.proofs.Common.{rules}
use Rattle.cargo_lock_references.proofs.ChecksumKeys.{with-one}
use Rattle.cargo_lock_references.proofs.written_metadata.put_checksum.Goals as goal

pub returns-in_default-clause-ok : goal.returns-in_default-clause-ok
returns-in_default-clause-ok c = rw with-one (search rules)

pub returns-clause-ok : goal.returns-clause-ok
returns-clause-ok c = rw with-one (search rules)
