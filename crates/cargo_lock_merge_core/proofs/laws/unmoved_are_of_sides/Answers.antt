use Rattle.cargo_lock_merge_core.proofs.Unmoved.{unmoved-side}
use Rattle.cargo_lock_merge_core.proofs.laws.unmoved_are_of_sides.Goals as goal

pub returns : goal.returns
returns c = λ s m x y one stays hx hy depends sx sy. unmoved-side s m x y one stays hx hy depends sx sy
