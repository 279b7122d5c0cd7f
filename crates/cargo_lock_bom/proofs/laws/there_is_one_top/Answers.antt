use Rattle.cargo_lock_bom.proofs.Tops.{tops-one}
use Rattle.cargo_lock_bom.proofs.laws.there_is_one_top.Goals as goal

pub returns : goal.returns
returns c = tops-one
