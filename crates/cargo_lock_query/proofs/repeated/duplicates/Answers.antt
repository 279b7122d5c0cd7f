use Rattle.std.proofs.Common.{◌≡◌, ◌∙◌, ◌+◌, ◌++◌, ◌∷◌, [], All, List, ℕ, Global, Vec, ap, map, subst, sym, take}
use Rattle.std.proofs.lemmas.List.{map_push, take_all, take_more}
use Rattle.std.proofs.lemmas.List.Elements.{All-push}
use Rattle.cargo_lock_query.specs.Duplicates.{AreDuplicates}
use Rattle.cargo_lock_query.specs.Needers.{AreNeeders}
use Rattle.cargo_lock_query.specs.declared.repeated.Duplicate.{Duplicate}
use Rattle.cargo_lock_query.proofs.repeated.duplicates.Goals as goal

pub loop-group-preserved : goal.loop-group-preserved
loop-group-preserved c =
    let nodes : Vec Duplicate Global → List ℕ = λ (g : Vec Duplicate Global). map (λ (one : Duplicate). one.node) g.items in
    let items : Vec ℕ Global → List ℕ = λ (g : Vec ℕ Global). g.items in
    let groups : List (Vec ℕ Global) = c.deref-group-items.result.now in
    let i : ℕ = c.loop-group.group-index in
    let group : Vec ℕ Global = c.group-item.result in
    let made : Vec Duplicate Global = c.in_ok-group_with_needers.field-0 in
    let one : nodes made ≡ items group = c.in_ok-group_with_needers.ensures.nodes ∙ c.deref.ensures.value in
    let next : take (i + 1) groups ≡ take i groups ++ group ∷ [] = take_more groups i group c.loop-group-test.true ∙ ap (λ (g : Vec ℕ Global). take i groups ++ g ∷ []) (sym c.group-item.is) in
    let P : Vec Duplicate Global → Type 0 = λ (g : Vec Duplicate Global). All (λ (d : Duplicate). AreNeeders c.args.graph.now d.node d.needers.items) g.items in (
      ap (map nodes) c.in_ok-push.ensures.items ∙ map_push nodes c.loop-group.with_needers.items made
          ∙ ap (λ (ns : List (List ℕ)). ns ++ nodes made ∷ []) c.loop-group.invariant.0
          ∙ ap (λ (ns : List ℕ). map items (take i groups) ++ ns ∷ []) one
          ∙ sym (ap (map items) next ∙ map_push items (take i groups) group),
      subst (All P) (sym c.in_ok-push.ensures.items)
          (All-push P c.loop-group.with_needers.items made c.loop-group.invariant.1 c.in_ok-group_with_needers.ensures.needers),
    )

pub returns-clause-groups : goal.returns-clause-groups
returns-clause-groups c =
    let items : Vec ℕ Global → List ℕ = λ (g : Vec ℕ Global). g.items in
    let groups : List (Vec ℕ Global) = c.deref-group-items.result.now in
    subst (AreDuplicates c.args.graph.now.packages)
    (sym (c.loop-group.invariant.0 ∙ ap (map items) (take_all c.loop-group.group-index groups c.loop-group-test.false ∙ c.deref-group-items.ensures.value))) c.in_ok-groups.ensures
