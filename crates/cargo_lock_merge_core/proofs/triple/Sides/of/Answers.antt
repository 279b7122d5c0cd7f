use Rattle.std.proofs.Common.{◌≡◌, ◌∙◌, ap, map}
use Rattle.cargo_lock_merge_core.specs.Commits.{Lockfiles}
use Rattle.cargo_lock_merge_core.specs.Numbers.{all_of, spot_places}
use Rattle.cargo_lock_merge_core.specs.Places.{merge_place}
use Rattle.cargo_lock_merge_core.proofs.Triples.{begin-at}
use Rattle.cargo_lock_merge_core.proofs.triple.Sides.of.Goals as goal

pub numbered_sides-requires-clause-begin : goal.numbered_sides-requires-clause-begin
numbered_sides-requires-clause-begin c =
    let all : Lockfiles = record { base = c.args.base.now.items; ours = c.args.ours.now.items; theirs = c.args.theirs.now.items } in
    let given : Lockfiles = record { base = c.deref.result.now; ours = c.deref-2.result.now; theirs = c.deref-3.result.now } in
    let same : given ≡ all = λ i. record { base = c.deref.ensures.value i; ours = c.deref-2.ensures.value i; theirs = c.deref-3.ensures.value i } in
    let made : spot_places c.in_ok-spots.spots.items ≡ map (merge_place given) (all_of given) = c.in_ok-spots.ensures.places in
    begin-at all c.in_ok-numbers.numbers
    (c.in_ok-numbers.ensures ∙ ap spot_places c.deref-4.ensures.value ∙ made ∙ ap (λ (a : Lockfiles). map (merge_place a) (all_of a)) same)
