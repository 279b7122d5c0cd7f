use Rattle.std.proofs.Common.{◌≡◌, ◌∙◌, ap, codes, subst, sym}
use Rattle.clap.specs.Matches.{found_of}
use Rattle.cargo_lock_display.specs.File.{FileData}
use Rattle.cargo_lock_references.specs.declared.version.ResolveVersion.{ResolveVersion}
use Rattle.cli_support.proofs.Writes.{on_ok_weaken}
use Rattle.cli_support.specs.Input.{given_path_in}
use Rattle.cli_input.specs.Json.{document_path, named_file_of}
use Rattle.cli_lockfile_commands.specs.Why.{PrintsAsked}
use Rattle.cli_lockfile_commands.proofs.why.run.Goals as goal

pub returns : goal.returns
returns g c =
    let old = g.W.Write.contents c.args.out.now in
    let new = g.W.Write.contents c.report_answers.new.out in
    let found = found_of c.args.options.now in
    let l = c.in_ok-format.ensures.ok.0 in
    let named : c.file_in-file.result ≡ named_file_of found (codes "file") l =
    c.file_in-file.ensures ∙ ap (λ (v : ResolveVersion). record { path = document_path (given_path_in found (codes "file")); format = v }) (sym c.in_ok-format.ensures.ok.2) in
    on_ok_weaken c.report_answers.result _ _ (λ printed. (
      l,
      c.in_ok-format.graph,
      c.in_ok-format.ensures.ok.1,
      c.in_ok-format.ensures.ok.3,
      subst (λ (file : FileData). PrintsAsked found file c.in_ok-format.graph old new) named printed,
    )) c.report_answers.ensures
