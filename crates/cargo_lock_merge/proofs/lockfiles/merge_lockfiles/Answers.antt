use Rattle.cargo_lock_merge.specs.MergedLockfiles.{LockfileTriple, triple_of}
use Rattle.cargo_lock_merge.proofs.ByPlaces.{merges-by-places}
use Rattle.cargo_lock_merge.proofs.lockfiles.merge_lockfiles.Goals as goal

pub returns-clause-ok : goal.returns-clause-ok
returns-clause-ok c =
    let s : LockfileTriple = triple_of c.args.base.now c.args.ours.now c.args.theirs.now in
    c.in_ok-joined.ensures.ok s c.in_ok-refuse_roots.ensures.ok c.in_ok-outcome.ensures.ok c.in_ok-rest.ensures.ok

pub returns-clause-by_places : goal.returns-clause-by_places
returns-clause-by_places c =
    let s : LockfileTriple = triple_of c.args.base.now c.args.ours.now c.args.theirs.now in
    merges-by-places c.args.comments.now s c.in_ok-joined.field-0 (c.in_ok-joined.ensures.ok s c.in_ok-refuse_roots.ensures.ok c.in_ok-outcome.ensures.ok c.in_ok-rest.ensures.ok)
