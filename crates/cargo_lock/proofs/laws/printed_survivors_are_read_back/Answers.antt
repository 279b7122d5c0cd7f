use Rattle.cargo_lock.proofs.PrintedTexts.{printed-back}
use Rattle.cargo_lock.proofs.laws.printed_survivors_are_read_back.Goals as goal

pub returns : goal.returns
returns c = printed-back
