use Rattle.std.proofs.Common.{sym}
use Rattle.cli_support.proofs.Writes.{on_ok_weaken}
use Rattle.cli_folder_commands.proofs.json.run.Goals as goal

pub returns : goal.returns
returns g c = on_ok_weaken c.print_document.result _ _
    (λ printed. (
      c.in_ok-lockfile.lockfile,
      c.in_ok-lockfile.ensures.ok,
      rw (sym c.path_in_documents.ensures) printed,
    )) c.print_document.ensures
