use Rattle.std.proofs.Common.{List, ℕ, subst}
use Rattle.cli_input.specs.Load.{IsOfLockfile}
use Rattle.cli_input.proofs.load.lockfile.Goals as goal

pub returns-in-Err-clause-err : goal.returns-in-Err-clause-err
returns-in-Err-clause-err g c = subst (λ (a : List ℕ). IsOfLockfile a c.named.result) c.given_path-argument.ensures (c.named.ensures c.in-Err.ensures.err)
