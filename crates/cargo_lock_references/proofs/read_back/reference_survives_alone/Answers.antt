use Rattle.std.proofs.Common.{ap, map, refl}
use Rattle.cargo_lock_parts.specs.Identity.{identity_of}
use Rattle.cargo_lock_references.proofs.ReadBackLemmas.{survives-by}
use Rattle.cargo_lock_references.proofs.read_back.reference_survives_alone.Goals as goal

pub returns : goal.returns
returns c = survives-by c.in_ok-survives.survives _ _ _ _ c.args.dependency.now refl (ap (map identity_of) c.empty-empty.ensures) c.in_ok-survives.ensures
