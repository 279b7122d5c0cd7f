use Rattle.std.proofs.Common.{◌≡◌, ◌∙◌, ◌<◌, ℕ, List, Some, ap, arith, length, slice_get, subst, sym}
use Rattle.std.proofs.lemmas.List.{length-map}
use Rattle.std.proofs.lemmas.Option.{same_Some}
use Rattle.cargo_lock_parts.specs.PartialIdentity.{partial_key}
use Rattle.cargo_lock_graph.specs.Targets.{IsLastBelow}
use Rattle.cargo_lock_merge_core.specs.declared.numbers.Spot.{Spot}
use Rattle.cargo_lock_merge_core.specs.Numbers.{spot_place, spot_places}
use Rattle.cargo_lock_merge_core.specs.Places.{Place}
use Rattle.cargo_lock_merge_core.proofs.Numbering.{number-last, number-there, place-read}
use Rattle.cargo_lock_merge_core.proofs.numbers.Numbers.number.Goals as goal

pub index-requires : goal.index-requires
index-requires c =
    let spots : List Spot = c.self.inside.spots.now in
    let at = c.args.at in
    let low : at < length spots = let n = c.requires in let long = length-map spots spot_place in let view = ap (λ (ps : List Place). length ps) c.self.view_is in omega (arith, n, long, view) in
    number-there (spot_places spots) (length spots) c.self.inside.last at c.place_at.result c.self.invariant low
    (place-read spots at c.index-self-at.result low c.index-self-at.is ∙ ap (λ (s : Spot). Some (spot_place s)) c.index-self-at.is ∙ ap Some (sym c.place_at.ensures))

pub returns : goal.returns
returns c = λ p here.
    let spots : List Spot = c.self.inside.spots.now in
    let at = c.args.at in
    let n : ℕ = c.index.result.now in
    let low : at < length spots = let n = c.requires in let long = length-map spots spot_place in let view = ap (λ (ps : List Place). length ps) c.self.view_is in omega (arith, n, long, view) in
    let read = place-read spots at c.index-self-at.result low c.index-self-at.is ∙ ap (λ (s : Spot). Some (spot_place s)) c.index-self-at.is ∙ ap Some (sym c.place_at.ensures) in
    let is : partial_key c.place_at.result ≡ p = same_Some (partial_key c.place_at.result) p (sym read ∙ ap (λ (ps : List Place). slice_get ps at) c.self.view_is ∙ here) in
    subst (λ (ps : List Place). IsLastBelow (λ (k : ℕ). slice_get ps k ≡ Some p) (length ps) (Some n)) c.self.view_is
    (subst (λ (count : ℕ). IsLastBelow (λ (k : ℕ). slice_get (spot_places spots) k ≡ Some p) count (Some n)) (sym (length-map spots spot_place))
    (number-last (spot_places spots) (length spots) c.self.inside.last c.place_at.result n p c.self.invariant c.index.ensures is))
