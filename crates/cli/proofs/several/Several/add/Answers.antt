use Rattle.std.proofs.Common.{◌∙◌, ap, length, refl}
use Rattle.std.proofs.lemmas.List.{length_push}
use Rattle.cli.specs.Check.{read_of}
use Rattle.cli.proofs.Outcomes.{several-read, several-unread}
use Rattle.cli_support.proofs.Writes.{on_ok_weaken}
use Rattle.cli.proofs.several.Several.add.Goals as goal

pub returns-in-Ok-clause-ok : goal.returns-in-Ok-clause-ok
returns-in-Ok-clause-ok c = rw c.in-Ok.is (on_ok_weaken c.append.result _ _
    (λ more form before read is kept. several-read form before read _ _ (λ was. more form (read_of before) read was kept) refl is)
    c.append.ensures)

pub returns-in_ok-push-in-Err-clause-err : goal.returns-in_ok-push-in-Err-clause-err
returns-in_ok-push-in-Err-clause-err c = rw c.in-Err.is (λ form before is.
    several-unread form before _ _ refl (ap length c.in_ok-push-in-Err.ensures.items ∙ length_push _ _) is)
