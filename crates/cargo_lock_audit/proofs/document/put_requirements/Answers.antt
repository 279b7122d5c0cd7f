use Rattle.json.specs.Json.{string}
use Rattle.cargo_lock_audit.specs.Requirement.{RequirementData}
use Rattle.printing.proofs.Arrays.{by_another}
use Rattle.printing.proofs.Behind.{then}
use Rattle.cargo_lock_audit.proofs.document.put_requirements.Goals as goal

pub returns : goal.returns
returns c = then c.in_ok-key.ensures (by_another string (λ (r : RequirementData). r.text) _ c.write_array.ensures)
