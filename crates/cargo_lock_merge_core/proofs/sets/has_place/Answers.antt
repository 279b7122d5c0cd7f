use Rattle.std.proofs.Common.{◌<◌, ◌≤◌, ℕ, List, length, get_or, arith, eq-eqb}
use Rattle.std.proofs.lemmas.Bool.{eqb-true, ltb-true, lt-ltb}
use Rattle.cargo_lock_merge_core.proofs.Ascending.{stops-at, is-there}
use Rattle.cargo_lock_merge_core.proofs.sets.has_place.Goals as goal
use Rattle.cargo_lock_merge_core.proofs.sets.has_place.Goals.{then-loop-at-test+else-list-at, else-loop-at-test}

pub returns-then-at-list-clause-found : goal.returns-then-at-list-clause-found
returns-then-at-list-clause-found c =
    let xs : List ℕ = c.args.list.now in
    let at = c.loop-at.at in
    let above : at < length xs → c.args.place ≤ get_or xs at 0 = λ low. elim c.loop-at-test.branch [
      | then-loop-at-test+else-list-at w ↦ w.if-list-at.false
      | else-loop-at-test w ↦ absurd (let h = w.loop-at-test.false in omega (arith, h, low))
    ] in (
      λ h. is-there xs at c.args.place c.if-at-list.true (eqb-true _ _ h),
      λ h. eq-eqb _ _ (stops-at xs at c.args.place c.requires.ascending c.loop-at.invariant above h).1,
    )

pub returns-else-at-list-clause-found : goal.returns-else-at-list-clause-found
returns-else-at-list-clause-found c =
    let xs : List ℕ = c.args.list.now in
    let at = c.loop-at.at in
    let end = c.if-at-list.false in
    let above : at < length xs → c.args.place ≤ get_or xs at 0 = λ low. absurd (omega (arith, end, low)) in (
      λ h. absurd (let l = ltb-true _ _ h in omega (arith, end, l)),
      λ h. lt-ltb _ _ (stops-at xs at c.args.place c.requires.ascending c.loop-at.invariant above h).0,
    )
