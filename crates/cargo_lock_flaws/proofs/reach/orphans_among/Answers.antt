use Rattle.std.proofs.Common.{◌≡◌, List, Bool, Some, false, length, slice_get, subst}
use Rattle.lists.specs.Places.{IsPlaces}
use Rattle.cargo_lock_flaws.proofs.Searching.{orphans-told}
use Rattle.cargo_lock_flaws.proofs.reach.orphans_among.Goals as goal

pub returns : goal.returns
returns c =
    let marks : List Bool = c.in_ok-reached.reached.items in
    let places = c.in_ok-orphans.orphans.items in
    orphans-told c.args.packages.now c.args.root.now marks places c.in_ok-reached.ensures.count
    c.in_ok-reached.ensures.marks
    (subst (λ (ms : List Bool). IsPlaces (λ k. slice_get ms k ≡ Some false) (length ms) places)
    c.deref.ensures.value c.in_ok-orphans.ensures)
