use Rattle.cargo_lock_licenses.proofs.Forms.{more-allow-more}
use Rattle.cargo_lock_licenses.proofs.laws.more_allow_more.Goals as goal

pub returns : goal.returns
returns c = more-allow-more
