use Rattle.std.proofs.Common.{sym, ◌∙◌}
use Rattle.cargo_lock_parts.specs.Checksum.{digest_in}
use Rattle.cargo_lock_references.proofs.ReadKeys.{put-set}
use Rattle.cargo_lock_references.proofs.read_keys.put_first.Goals as goal

pub returns : goal.returns
returns c =
    put-set c.args.checksums.now c.put.new.checksums c.key_of-key.result c.args.dependency c.in_ok-checksum.checksum (digest_in c.args.value.now)
    c.key_of-key.ensures (sym c.contains_key.ensures ∙ c.if-contains_key.false) c.in_ok-checksum.ensures c.in_ok-put.ensures
