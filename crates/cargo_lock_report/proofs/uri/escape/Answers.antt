use Rattle.std.proofs.Common.{◌∙◌}
use Rattle.cargo_lock_report.proofs.Uris.{percent_encode-path}
use Rattle.cargo_lock_report.proofs.uri.escape.Goals as goal

pub returns : goal.returns
returns c = c.utf8_percent_encode.ensures.text ∙ percent_encode-path _
