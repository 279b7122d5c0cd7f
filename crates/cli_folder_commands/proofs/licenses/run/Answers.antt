use Rattle.std.proofs.Common.{◌≡◌, ◌∙◌, List, codes, refl, string_bytes, subst, ℕ}
use Rattle.std.proofs.lemmas.Result.{IfOk-weaker}
use Rattle.clap.specs.Matches.{found_of}
use Rattle.cargo_lock_licenses.specs.Policy.{policy_of}
use Rattle.cargo_lock_encoding.specs.Lockfiles.{LockfileData}
use Rattle.cli_folder_commands.specs.Licenses.{PrintsLicensesOf}
use Rattle.cli_input.specs.Told.{IsReportPath, SubjectData, subject_of, subject_of_lockfile}
use Rattle.cli_support.specs.Input.{given_path_in}
use Rattle.cli_folder_commands.proofs.licenses.run.Goals as goal

pub returns : goal.returns
returns g c =
    let found = found_of c.args.options.now in
    let old = g.W.Write.contents c.args.out.now in
    let new = g.W.Write.contents c.print_licenses.new.out in
    let policy = policy_of c.in_ok-policy.policy in
    let path : List ℕ = string_bytes c.in_ok-path.path in
    let text : List ℕ = string_bytes c.in_ok-read.read.text in
    let l : LockfileData = c.in_ok-read.read.lockfile in
    let argument : List ℕ = given_path_in found (codes "file") in
    let subject : subject_of c.of-subject.result ≡ subject_of_lockfile argument path text l =
    c.of-subject.ensures ∙ rw (c.file-file.ensures, c.deref.ensures) refl in
    IfOk-weaker c.print_licenses.result _ _ (λ counts told. (
      text,
      path,
      l,
      policy,
      c.in_ok-read.ensures.ok.means,
      subst (λ (a : List ℕ). IsReportPath found a path) c.given_path.ensures c.in_ok-path.ensures.ok,
      c.in_ok-policy.ensures,
      subst (λ (s : SubjectData). PrintsLicensesOf found policy s old new counts) subject told,
    )) c.print_licenses.ensures
