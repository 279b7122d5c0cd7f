use Rattle.cargo_lock.proofs.WrittenAgain.{written-again}
use Rattle.cargo_lock.proofs.laws.survivors_are_written_again.Goals as goal

pub returns : goal.returns
returns c = written-again
