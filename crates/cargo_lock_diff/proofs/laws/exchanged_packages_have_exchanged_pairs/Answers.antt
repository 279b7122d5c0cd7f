use Rattle.cargo_lock_diff.proofs.Told.{pairing_mirrored}
use Rattle.cargo_lock_diff.proofs.laws.exchanged_packages_have_exchanged_pairs.Goals as goal

pub returns : goal.returns
returns c = pairing_mirrored
