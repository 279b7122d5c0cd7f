use Rattle.std.proofs.Common.{◌∙◌, arith}
use Rattle.std.proofs.lemmas.List.{take_all}
use Rattle.cargo_lock_diff.proofs.InOrder.{numbered-at}
use Rattle.cargo_lock_diff.proofs.matching.with_places.Goals as goal

pub returns-clause-placed : goal.returns-clause-placed
returns-clause-placed c =
    let packages = c.args.packages.now.items in
    numbered-at packages c.loop-place.all.items
    (c.loop-place.invariant.0 ∙ take_all c.loop-place.place packages (omega arith))
    c.loop-place.invariant.1
