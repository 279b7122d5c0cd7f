use Rattle.std.proofs.Common.{◌≡◌, ◌∙◌, ◌+◌, ◌++◌, ◌∷◌, [], All, ℕ, List, ap, map, subst, sym, take}
use Rattle.std.proofs.lemmas.List.{map_push, take_more}
use Rattle.std.proofs.lemmas.List.Elements.{All-push}
use Rattle.cargo_lock_query.specs.Needers.{AreNeeders}
use Rattle.cargo_lock_query.specs.declared.repeated.Duplicate.{Duplicate}
use Rattle.cargo_lock_query.proofs.repeated.group_with_needers.Goals as goal

pub loop-place-preserved : goal.loop-place-preserved
loop-place-preserved c =
    let places : List ℕ = c.args.places.now in
    let i : ℕ = c.loop-place.place-index in
    let node : ℕ = c.new-node.result in
    let group : List Duplicate = c.loop-place.group.items in
    let one : Duplicate = record { node = node; needers = c.in_ok-needers.needers } in
    let made : map (λ (d : Duplicate). d.node) c.push.new.self.items ≡ take (i + 1) places =
    ap (map (λ (d : Duplicate). d.node)) c.in_ok-push.ensures.items ∙ map_push (λ (d : Duplicate). d.node) group one
    ∙ ap (λ (ns : List ℕ). ns ++ node ∷ []) c.loop-place.invariant.0
    ∙ ap (λ (n : ℕ). take i places ++ n ∷ []) c.new-node.ensures
    ∙ sym (take_more places i 0 c.loop-place-test.true) in (
      made,
      subst (All (λ (d : Duplicate). AreNeeders c.args.graph.now d.node d.needers.items)) (sym c.in_ok-push.ensures.items)
          (All-push (λ (d : Duplicate). AreNeeders c.args.graph.now d.node d.needers.items) group one c.loop-place.invariant.1 c.in_ok-needers.ensures),
    )
