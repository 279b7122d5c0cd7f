use Rattle.cargo_lock_location.proofs.Numbers.{each_package_is_answered}
use Rattle.cargo_lock_location.proofs.laws.each_package_is_answered.Goals as goal

pub returns : goal.returns
returns c = each_package_is_answered
