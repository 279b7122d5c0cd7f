use Rattle.cargo_lock_merge_core.proofs.Settling.{settled-ok}
use Rattle.cargo_lock_merge_core.proofs.entry.entry_at.Goals as goal

pub entry_of-requires-clause-chosen : goal.entry_of-requires-clause-chosen
entry_of-requires-clause-chosen c =
    let all = c.args.commits.now in
    settled-ok all c.args.row.now c.settle-chosen.result (c.settle-chosen.ensures all c.in_ok-side.ensures.ok)

pub returns-clause-ok : goal.returns-clause-ok
returns-clause-ok c =
    let all = c.args.commits.now in
    c.in_ok-entry_of.ensures.1 all (c.settle-chosen.ensures all c.in_ok-side.ensures.ok)
