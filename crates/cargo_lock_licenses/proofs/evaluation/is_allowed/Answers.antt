use Rattle.std.proofs.Common.{◌∙◌, string_bytes}
use Rattle.cargo_lock_licenses.proofs.Running.{any-of-texts}
use Rattle.cargo_lock_licenses.proofs.evaluation.is_allowed.Goals as goal

pub returns : goal.returns
returns c = c.is_among.ensures ∙ any-of-texts (string_bytes c.args.text.now) c.args.allowed.now
