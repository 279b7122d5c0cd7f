use Rattle.std.proofs.Common.{ap, map, sym}
use Rattle.cargo_lock_parts.specs.Identity.{identity_of}
use Rattle.cargo_lock_encoding.specs.Means.{reading_list}
use Rattle.cargo_lock_references.proofs.ReadBackLemmas.{survives-by}
use Rattle.cargo_lock_encoding.proofs.SurvivalLemmas.{reads-in-list}
use Rattle.cargo_lock_encoding.proofs.survival.written_reference_survives.Goals as goal
use Rattle.cargo_lock_encoding.proofs.survival.written_reference_survives.Goals.{in-V1+in_ok-survives-in-V1, in-V2+in_ok-survives-in-V2}

pub returns-clause-ok : goal.returns-clause-ok
returns-clause-ok c = elim c.match-format.branch [
  | in-V1+in_ok-survives-in-V1 w ↦ rw w.survives-is
      (survives-by w.in_ok-survives-in-V1.survives _ _ _ _ c.args.dependency.now c.written_reference-reference.ensures
      (ap (λ format. reading_list format (map identity_of c.args.list.now)) (sym w.in-V1.is)) w.in_ok-survives-in-V1.ensures)
  | in-V2+in_ok-survives-in-V2 w ↦ rw w.survives-is
      (survives-by w.in_ok-survives-in-V2.survives _ _ _ _ c.args.dependency.now c.written_reference-reference.ensures
      (reads-in-list c.args.format (map identity_of c.args.list.now) w.in-V2.is) w.in_ok-survives-in-V2.ensures)
]
