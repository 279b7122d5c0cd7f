use Rattle.std.proofs.Common.{sym}
use Rattle.cargo_lock_encoding.proofs.Lines.{nonempty-text}
use Rattle.cargo_lock_encoding.proofs.text.is_bare_key.Goals as goal

pub returns-then-not-is_empty : goal.returns-then-not-is_empty
returns-then-not-is_empty c = rw (nonempty-text c.args.key.now (sym c.if-not-is_empty.ensures)) c.has_bare_bytes.ensures
