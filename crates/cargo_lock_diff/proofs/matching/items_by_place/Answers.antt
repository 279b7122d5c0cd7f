use Rattle.std.proofs.Common.{List, rules, map, subst, sym, ap, ◌∙◌, arith, IsPermutation}
use Rattle.std.specs.Borrow.{Bor}
use Rattle.std.proofs.lemmas.List.{take_all}
use Rattle.std.proofs.lemmas.List.Sorted.{IsNonDecreasingBy-from_sort_by_key, IsPermutation-map}
use Rattle.cargo_lock_parts.specs.Identity.{PackageData}
use Rattle.cargo_lock_diff.specs.declared.matching.Placed.{Placed}
use Rattle.cargo_lock_diff.specs.Matching.{IsSublist}
use Rattle.cargo_lock_diff.proofs.InOrder.{items-sorted}
use Rattle.cargo_lock_diff.proofs.matching.items_by_place.Goals as goal

pub returns-clause-items : goal.returns-clause-items
returns-clause-items c =
    let sorted : List Placed = c.sort_by_key.new.self.items in
    subst (λ (zs : List (Bor PackageData)). IsPermutation (map (λ (p : Placed). p.item) c.args.list.items) zs)
    (sym (c.loop-one.invariant ∙ ap (map (λ (p : Placed). p.item)) (take_all c.loop-one.one-index _ (omega arith)) ∙ ap (map (λ (p : Placed). p.item)) c.deref-one-items.ensures.value))
    (IsPermutation-map (λ (p : Placed). p.item) c.args.list.items sorted c.in_ok-sort_by_key.ensures.permutation)

pub returns-clause-in_order : goal.returns-clause-in_order
returns-clause-in_order c packages at =
    let sorted : List Placed = c.sort_by_key.new.self.items in
    subst (λ (zs : List (Bor PackageData)). IsSublist zs packages)
    (sym (c.loop-one.invariant ∙ ap (map (λ (p : Placed). p.item)) (take_all c.loop-one.one-index _ (omega arith))
    ∙ ap (map (λ (p : Placed). p.item)) c.deref-one-items.ensures.value))
    (items-sorted c.args.list.items sorted c.in_ok-sort_by_key.ensures.permutation
    (IsNonDecreasingBy-from_sort_by_key (λ (p : Placed). p.place) sorted c.in_ok-sort_by_key.ensures.sorted (λ a r f k. search rules))
    packages at)
