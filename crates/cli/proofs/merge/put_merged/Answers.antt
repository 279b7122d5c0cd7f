use Rattle.std.proofs.Common.{refl}
use Rattle.cli.proofs.merge.put_merged.Goals as goal

pub returns-in_ok-put_own_out-in-Lines-clause-printed : goal.returns-in_ok-put_own_out-in-Lines-clause-printed
returns-in_ok-put_own_out-in-Lines-clause-printed g c = rw c.in-Lines.is (c.in_ok-put_own_out-in-Lines.ensures, refl)
