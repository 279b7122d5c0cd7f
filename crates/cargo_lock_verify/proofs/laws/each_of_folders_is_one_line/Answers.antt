use Rattle.cargo_lock_verify.proofs.OneLine.{each-of-folders-is-one-line}
use Rattle.cargo_lock_verify.proofs.laws.each_of_folders_is_one_line.Goals as goal

pub returns : goal.returns
returns c = each-of-folders-is-one-line
