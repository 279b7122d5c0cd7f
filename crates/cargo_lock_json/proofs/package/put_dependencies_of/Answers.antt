use Rattle.printing.proofs.Behind.{then}
use Rattle.cargo_lock_json.proofs.package.put_dependencies_of.Goals as goal

pub returns : goal.returns
returns c = then c.in_ok-key.ensures c.put_places.ensures
