use Rattle.std.proofs.Common.{List, subst}
use Rattle.std.proofs.lemmas.Result.{IfOk-weaker}
use Rattle.cargo_lock_merge_core.specs.declared.rows.Row.{Row}
use Rattle.cargo_lock_merge_core.specs.Commits.{Lockfiles}
use Rattle.cargo_lock_merge_core.specs.Plans.{HasEntries, numbered_triple}
use Rattle.cargo_lock_merge_core.proofs.Planning.{entries-of-rows}
use Rattle.cargo_lock_merge_core.proofs.plan.entries.Goals as goal

pub returns-clause-ok : goal.returns-clause-ok
returns-clause-ok c =
    let s = numbered_triple c.args.base.now c.args.ours.now c.args.theirs.now in
    let rows : List Row = c.in_ok-rows.rows.items in
    let made = c.in_ok-rows.ensures in
    IfOk-weaker c.entries_of.result _ _
    (λ v h. entries-of-rows s rows v.items made.ascending made.holds made.exact
    (subst (λ (all : Lockfiles). HasEntries all rows v.items) c.in_ok-commits.ensures.ok
    (subst (λ (rs : List Row). HasEntries c.in_ok-commits.commits rs v.items) c.deref.ensures.value h)))
    c.entries_of.ensures.ok
