use Rattle.std.proofs.Common.{◌∙◌}
use Rattle.cargo_lock_bom.proofs.Escapes.{percent_encode-iri}
use Rattle.cargo_lock_bom.proofs.iri.escape_iri.Goals as goal

pub returns : goal.returns
returns c = c.utf8_percent_encode.ensures.text ∙ percent_encode-iri _
