use Rattle.std.proofs.Common.{refl}
use Rattle.cargo_lock_references.proofs.ReadBackLemmas.{survives-by}
use Rattle.cargo_lock_encoding.proofs.survival.full_reference_survives.Goals as goal

pub returns-clause-ok : goal.returns-clause-ok
returns-clause-ok c = survives-by c.in_ok-survives.survives _ _ _ _ c.args.dependency.now c.from_dependency-reference.ensures refl c.in_ok-survives.ensures
