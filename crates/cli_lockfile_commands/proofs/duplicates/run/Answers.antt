use Rattle.std.proofs.Common.{◌≡◌, ◌∙◌, ap, codes, sym}
use Rattle.clap.specs.Matches.{found_of}
use Rattle.cargo_lock_references.specs.declared.version.ResolveVersion.{ResolveVersion}
use Rattle.cli_support.proofs.Writes.{if_ok_weaken}
use Rattle.cli_support.specs.Input.{given_path_in}
use Rattle.cli_input.specs.Json.{document_path, named_file_of}
use Rattle.cli_lockfile_commands.proofs.duplicates.run.Goals as goal

pub returns : goal.returns
returns g c =
    let found = found_of c.args.options.now in
    let l = c.in_ok-format.ensures.ok.0 in
    let named : c.file_in-file.result ≡ named_file_of found (codes "file") l =
    c.file_in-file.ensures ∙ ap (λ (v : ResolveVersion). record { path = document_path (given_path_in found (codes "file")); format = v }) (sym c.in_ok-format.ensures.ok.2) in
    if_ok_weaken c.report_names.result _ _ (λ status printed. (
      l,
      c.in_ok-format.graph,
      c.in_ok-format.ensures.ok.1,
      c.in_ok-format.ensures.ok.3,
      rw (sym named) printed,
    )) c.report_names.ensures
