use Rattle.std.proofs.Common.{◌∙◌, bytes_eq, string_bytes, sym}
use Rattle.lists.proofs.Tests.{any-map}
use Rattle.cargo_lock_audit.proofs.texts.is_listed.Goals as goal

pub returns : goal.returns
returns c = c.is_among.ensures ∙ sym (any-map string_bytes (bytes_eq c.args.text.now) c.args.texts.now)
