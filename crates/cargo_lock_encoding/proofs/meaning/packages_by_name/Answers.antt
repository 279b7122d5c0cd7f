use Rattle.cargo_lock_encoding.proofs.meaning.packages_by_name.Goals as goal

pub returns : goal.returns
returns c = rw c.in_ok-list.ensures at c.each_by_name.ensures
