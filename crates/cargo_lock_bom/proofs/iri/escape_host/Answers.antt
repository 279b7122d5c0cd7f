use Rattle.std.proofs.Common.{◌∙◌}
use Rattle.cargo_lock_bom.proofs.Escapes.{percent_encode-host}
use Rattle.cargo_lock_bom.proofs.iri.escape_host.Goals as goal

pub returns : goal.returns
returns c = c.utf8_percent_encode.ensures.text ∙ percent_encode-host _
