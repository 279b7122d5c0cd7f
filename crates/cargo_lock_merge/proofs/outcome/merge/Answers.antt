use Rattle.cargo_lock_merge_core.specs.Commits.{Lockfiles}
use Rattle.cargo_lock_merge.specs.Outcome.{three}
use Rattle.cargo_lock_merge.proofs.ByPlaces.{finds-by-places}
use Rattle.cargo_lock_merge.proofs.outcome.merge.Goals as goal

pub returns-clause-ok : goal.returns-clause-ok
returns-clause-ok c = c.in_ok-merge_sides.ensures.ok _ c.in_ok-sides.ensures.ok

pub returns-clause-by_places : goal.returns-clause-by_places
returns-clause-by_places c =
    let all : Lockfiles = three c.args.base.now.items c.args.ours.now.items c.args.theirs.now.items in
    finds-by-places all c.in_ok-merge_sides.field-0 (c.in_ok-merge_sides.ensures.ok all c.in_ok-sides.ensures.ok)
