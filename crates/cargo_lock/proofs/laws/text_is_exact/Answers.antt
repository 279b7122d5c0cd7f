use Rattle.cargo_lock.proofs.TextsAreExact.{text-is-exact}
use Rattle.cargo_lock.proofs.laws.text_is_exact.Goals as goal

pub returns : goal.returns
returns c = text-is-exact
