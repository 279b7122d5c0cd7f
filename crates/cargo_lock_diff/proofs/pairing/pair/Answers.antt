use Rattle.std.proofs.Common.{List, map, subst, IsPermutation}
use Rattle.std.specs.Borrow.{Bor}
use Rattle.std.proofs.lemmas.Cmp.{eq_by_cmp_equiv}
use Rattle.cargo_lock_parts.specs.Identity.{PackageData}
use Rattle.cargo_lock_diff.proofs.InOrder.{order-later, order-map, sorted-at}
use Rattle.cargo_lock_diff.proofs.Orders.{likeness_total}
use Rattle.cargo_lock_diff.proofs.Pairs.{flat-map, paired-at}
use Rattle.cargo_lock_diff.proofs.pairing.pair.Goals as goal

pub returns-clause-paired : goal.returns-clause-paired
returns-clause-paired c =
    let passes : List (List (Bor PackageData × Bor PackageData)) = map (λ pairs. pairs.items) c.in_ok-in_turn.in_turn.passes.items in
    paired-at c.args.old.now.items c.args.new.now.items c.in_ok-wholly.wholly.pairs.items c.in_ok-wholly.wholly.old.items c.in_ok-wholly.wholly.new.items
    passes c.in_ok-pairs.pairs.items c.in_ok-in_turn.in_turn.old.items c.in_ok-in_turn.in_turn.new.items
    (λ likeness. eq_by_cmp_equiv (likeness_total likeness))
    c.in_ok-wholly.ensures.matched (rw c.turns-turns.ensures at c.in_ok-in_turn.ensures.paired)
    (subst (λ (zs : List (Bor PackageData × Bor PackageData)). IsPermutation zs c.in_ok-pairs.pairs.items)
    (flat-map (λ pairs. pairs.items) c.in_ok-in_turn.in_turn.passes.items) c.in_ok-pairs.ensures.items)

pub returns-clause-in_order : goal.returns-clause-in_order
returns-clause-in_order c =
    let w = c.in_ok-wholly.wholly in
    let t = c.in_ok-in_turn.in_turn in
    order-map (λ (b : Bor PackageData). b.now) c.args.old.now.items c.args.new.now.items w.pairs.items t.old.items t.new.items
    (order-later c.args.old.now.items c.args.new.now.items w.pairs.items w.old.items w.new.items t.old.items t.new.items
    c.in_ok-wholly.ensures.in_order c.in_ok-in_turn.ensures.old_in_order c.in_ok-in_turn.ensures.new_in_order)

pub returns-clause-sorted : goal.returns-clause-sorted
returns-clause-sorted c = sorted-at c.in_ok-pairs.pairs.items c.in_ok-pairs.ensures.sorted
