use Rattle.cargo_lock.proofs.PrintedTexts.{text-means-one}
use Rattle.cargo_lock.proofs.laws.text_means_one.Goals as goal

pub returns : goal.returns
returns c = text-means-one
