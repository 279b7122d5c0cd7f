use Rattle.std.proofs.Common.{◌≡◌, ◌∙◌, List, codes, refl, string_bytes, subst, ℕ}
use Rattle.std.proofs.lemmas.Result.{IfOk-weaker}
use Rattle.std.specs.declared.process.TheConstants.ExitCode.{FAILURE, SUCCESS}
use Rattle.clap.specs.Matches.{found_of}
use Rattle.cargo_lock_encoding.specs.Lockfiles.{LockfileData}
use Rattle.cli_folder_commands.specs.Verify.{PrintsVerifiedOf}
use Rattle.cli_input.specs.Told.{IsReportPath, SubjectData, subject_of, subject_of_lockfile}
use Rattle.cli_support.specs.Input.{given_path_in}
use Rattle.cli_folder_commands.proofs.verify.run.Goals as goal

pub returns : goal.returns
returns g c =
    let found = found_of c.args.options.now in
    let old = g.W.Write.contents c.args.out.now in
    let new = g.W.Write.contents c.print_verified.new.out in
    let path : List ℕ = string_bytes c.in_ok-path.path in
    let text : List ℕ = string_bytes c.in_ok-read.read.text in
    let l : LockfileData = c.in_ok-read.read.lockfile in
    let argument : List ℕ = given_path_in found (codes "file") in
    let subject : subject_of c.of-subject.result ≡ subject_of_lockfile argument path text l =
    c.of-subject.ensures ∙ rw (c.file-file.ensures, c.deref.ensures) refl in
    IfOk-weaker c.print_verified.result _ _ (λ status told. (
      text,
      path,
      l,
      c.in_ok-read.ensures.ok,
      subst (λ (a : List ℕ). IsReportPath found a path) c.given_path.ensures c.in_ok-path.ensures.ok,
      subst (λ (s : SubjectData). PrintsVerifiedOf found s old new (status ≡ FAILURE) (status ≡ SUCCESS)) subject told,
    )) c.print_verified.ensures
