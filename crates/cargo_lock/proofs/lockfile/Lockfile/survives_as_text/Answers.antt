use Rattle.std.proofs.Common.{refl}
use Rattle.std.proofs.lemmas.Bool.{false≢true}
use Rattle.cargo_lock.proofs.TextsAreExact.{decided-whole, text-is-exact}
use Rattle.cargo_lock.proofs.lockfile.Lockfile.survives_as_text.Goals as goal

pub returns-then-is_all_printed-clause-decided : goal.returns-then-is_all_printed-clause-decided
returns-then-is_all_printed-clause-decided c =
    decided-whole c.args.self.now c.args.format c.survives.result (c.if-is_all_printed.ensures.0 refl) c.survives.ensures.decided

pub returns-else-is_all_printed-clause-decided : goal.returns-else-is_all_printed-clause-decided
returns-else-is_all_printed-clause-decided c = (
  λ never. absurd (false≢true never),
  λ back. let whole = (text-is-exact c.args.self.now c.args.format).1 back in c.if-is_all_printed.ensures.1 (whole.1, whole.2),
)
