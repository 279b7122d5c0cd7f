use Rattle.cargo_lock_limit.specs.Matched.{matched_length}
use Rattle.cargo_lock_limit.proofs.Counting.{counted-next}
use Rattle.cargo_lock_limit.proofs.matched.with_each.Goals as goal

pub loop-reference-preserved : goal.loop-reference-preserved
loop-reference-preserved c =
    counted-next (matched_length c.args.list.now) c.args.references.now c.loop-reference.reference-index c.reference-item.result c.args.number c.loop-reference.total c.with_matched-total.result
    c.loop-reference-test.true c.reference-item.is c.loop-reference.invariant c.with_matched-total.ensures
