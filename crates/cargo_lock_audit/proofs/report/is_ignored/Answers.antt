use Rattle.std.proofs.Common.{◌∙◌, string_bytes, sym}
use Rattle.lists.proofs.Tests.{any-map}
use Rattle.cargo_lock_audit.specs.Advisory.{is_name_of}
use Rattle.cargo_lock_audit.proofs.report.is_ignored.Goals as goal

pub returns : goal.returns
returns c = c.is_named_by_one.ensures ∙ sym (any-map string_bytes (is_name_of c.args.advisory.now) c.args.ignored.now)
