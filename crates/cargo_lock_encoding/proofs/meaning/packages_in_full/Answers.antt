use Rattle.cargo_lock_encoding.proofs.meaning.packages_in_full.Goals as goal

pub returns : goal.returns
returns c = rw c.in_ok-read.ensures at c.each_in_full.ensures
