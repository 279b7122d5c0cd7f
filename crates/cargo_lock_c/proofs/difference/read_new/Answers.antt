use Rattle.cargo_lock_c.proofs.Refusals.{new-kind, refused-new}
use Rattle.cargo_lock_c.proofs.difference.read_new.Goals as goal

pub returns-in-Err-clause-refused : goal.returns-in-Err-clause-refused
returns-in-Err-clause-refused c =
    rw c.into_new.ensures (refused-new c.args.bytes.now c.in-Err.refusal c.in-Err.ensures.refused c.in-Err.ensures.below)

pub returns-in-Err-clause-kind : goal.returns-in-Err-clause-kind
returns-in-Err-clause-kind c = rw c.into_new.ensures (new-kind c.in-Err.refusal c.in-Err.ensures.below)
