use Rattle.std.proofs.Common.{List, map, subst}
use Rattle.clap.specs.Matches.{found_of}
use Rattle.cargo_lock_parts.specs.Identity.{PackageData}
use Rattle.cargo_lock_query.specs.Answers.{answers_text}
use Rattle.cargo_lock_query.specs.Lines.{answer_of}
use Rattle.cargo_lock_query.specs.WhyDocument.{answers_json}
use Rattle.cli_input.specs.Json.{PrintsAnswer}
use Rattle.cli_support.proofs.Writes.{on_ok_weaken}
use Rattle.cli_lockfile_commands.proofs.why.report_answers.Goals as goal

pub returns : goal.returns
returns g c =
    let old = g.W.Write.contents c.args.out.now in
    let new = g.W.Write.contents c.print_answer.new.out in
    let answers = map answer_of c.in_ok-answers.answers.answers.items in
    on_ok_weaken c.print_answer.result _ _ (λ printed. (
      answers,
      c.in_ok-answers.ensures.answers,
      subst (λ (ps : List PackageData). PrintsAnswer (found_of c.args.options.now) (answers_json c.args.file.now answers) (answers_text ps answers) old new) c.in_ok-answers.ensures.list printed,
    )) c.print_answer.ensures
