use Rattle.cargo_lock_references.proofs.reference.EncodableDependency.dependency_in.Goals as goal

pub returns : goal.returns
returns c = rw ((rw c.by_ref.ensures at c.in_ok-found.ensures) c.args.list.now c.first_fit.ensures) at c.require.ensures.read
