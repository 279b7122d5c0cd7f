use Rattle.std.proofs.Common.{List, ap, arith, sym, ◌∙◌}
use Rattle.std.proofs.lemmas.List.{get_or_default}
use Rattle.cargo_lock_merge_core.specs.declared.placed.Placed.{Placed}
use Rattle.cargo_lock_merge_core.specs.Numbered.{all_data, place_numbers}
use Rattle.cargo_lock_merge_core.proofs.Ascending.{below-more}
use Rattle.cargo_lock_merge_core.proofs.Finding.{place-at, stopped-at, stopped-none}
use Rattle.cargo_lock_merge_core.proofs.rows.package_of.Goals as goal
use Rattle.cargo_lock_merge_core.proofs.rows.package_of.Goals.{then-loop-at-test+else-list-at, else-loop-at-test, else-at-list-via-then-at-list+else-list-at-2, else-at-list-via-else-at-list}

pub loop-at-preserved : goal.loop-at-preserved
loop-at-preserved c =
    let xs : List Placed = c.args.list.now in
    let at = c.loop-at.at in
    let lt = c.if-list-at.true in
    let e = place-at xs at _ c.loop-at-test.true in
    below-more (place_numbers (all_data xs)) at c.args.place c.loop-at.invariant (rw e lt)

pub returns-then-list-at-2-clause-found : goal.returns-then-list-at-2-clause-found
returns-then-list-at-2-clause-found c =
    let h = c.index-list-at-then-list-at-2 in
    stopped-at c.args.list.now c.loop-at.at c.args.place c.requires.ascending c.loop-at.invariant h.result c.if-at-list.true (sym h.is) (let e = get_or_default c.args.list.now c.loop-at.at h.result c.index-list-at-then-at-list.result c.if-at-list.true in
    ap (λ (x : Placed). x.place) (h.is ∙ e) ∙ c.if-list-at-2.true)

pub returns-else-at-list-clause-found : goal.returns-else-at-list-clause-found
returns-else-at-list-clause-found c =
    let xs : List Placed = c.args.list.now in
    let at = c.loop-at.at in
    stopped-none xs at c.args.place c.requires.ascending c.loop-at.invariant
    (λ low. elim c.else-at-list.branch [
      | else-at-list-via-then-at-list+else-list-at-2 w ↦ elim c.loop-at-test.branch [
        | then-loop-at-test+else-list-at v ↦
            (let e = place-at xs at _ low in let ge = v.if-list-at.false in rw e ge, λ h. w.if-list-at-2.false (sym (place-at xs at _ low) ∙ h))
        | else-loop-at-test v ↦ absurd (let n = v.loop-at-test.false in omega (arith, n, low))
      ]
      | else-at-list-via-else-at-list w ↦ absurd (let n = w.if-at-list.false in omega (arith, n, low))
    ])
