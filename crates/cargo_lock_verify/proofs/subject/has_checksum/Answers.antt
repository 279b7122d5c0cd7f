use Rattle.std.proofs.Common.{◌∙◌, sym}
use Rattle.cargo_lock_parts.specs.Checksum.{digest_of}
use Rattle.cargo_lock_verify.specs.Archives.{archive_of, is_digest}
use Rattle.lists.proofs.Tests.{any-map}
use Rattle.cargo_lock_verify.proofs.subject.has_checksum.Goals as goal

pub returns : goal.returns
returns c = c.is_among.ensures ∙ sym (any-map archive_of (is_digest (digest_of c.args.checksum.now)) c.args.archives.now)
