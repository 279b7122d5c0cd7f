use Rattle.std.proofs.Common.{◌∙◌, bytes_eq, string_bytes, sym}
use Rattle.lists.proofs.Tests.{any-map}
use Rattle.cargo_lock_licenses.proofs.report.is_had.Goals as goal

pub returns : goal.returns
returns c = c.is_among.ensures ∙ sym (any-map string_bytes (bytes_eq c.args.term.now) c.args.had.now)
