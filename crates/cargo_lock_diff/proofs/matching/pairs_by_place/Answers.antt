use Rattle.std.proofs.Common.{List, rules, map, subst, sym, ap, ◌∙◌, arith, IsPermutation}
use Rattle.std.specs.Borrow.{Bor}
use Rattle.std.proofs.lemmas.List.{take_all}
use Rattle.std.proofs.lemmas.List.Sorted.{IsNonDecreasingBy-from_sort_by_key, IsPermutation-map}
use Rattle.cargo_lock_parts.specs.Identity.{PackageData}
use Rattle.cargo_lock_diff.specs.declared.matching.Placed.{Placed}
use Rattle.cargo_lock_diff.specs.Matching.{IsSublist, firsts}
use Rattle.cargo_lock_diff.specs.Placing.{unplaced_pair}
use Rattle.cargo_lock_diff.proofs.InOrder.{pairs-sorted}
use Rattle.cargo_lock_diff.proofs.matching.pairs_by_place.Goals as goal

pub returns-clause-items : goal.returns-clause-items
returns-clause-items c =
    subst (λ (zs : List (Bor PackageData × Bor PackageData)). IsPermutation (map unplaced_pair c.args.pairs.items) zs)
    (sym (c.loop-pair.invariant ∙ ap (map unplaced_pair) (take_all c.loop-pair.pair-index _ (omega arith)) ∙ ap (map unplaced_pair) c.deref-pair-items.ensures.value))
    (IsPermutation-map unplaced_pair c.args.pairs.items c.sort_by_key.new.self.items c.in_ok-sort_by_key.ensures.permutation)

pub returns-clause-in_order : goal.returns-clause-in_order
returns-clause-in_order c packages at =
    let sorted : List (Placed × Placed) = c.sort_by_key.new.self.items in
    subst (λ (zs : List (Bor PackageData × Bor PackageData)). IsSublist (firsts zs) packages)
    (sym (c.loop-pair.invariant ∙ ap (map unplaced_pair) (take_all c.loop-pair.pair-index _ (omega arith))
    ∙ ap (map unplaced_pair) c.deref-pair-items.ensures.value))
    (pairs-sorted c.args.pairs.items sorted c.in_ok-sort_by_key.ensures.permutation
    (IsNonDecreasingBy-from_sort_by_key (λ (p : Placed × Placed). p.0.place) sorted c.in_ok-sort_by_key.ensures.sorted (λ a r f k. search rules))
    packages at)
