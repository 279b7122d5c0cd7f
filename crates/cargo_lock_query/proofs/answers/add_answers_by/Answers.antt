use Rattle.std.proofs.Common.{◌≡◌, ◌∙◌, List, ap, length, map, refl, sym}
use Rattle.std.proofs.lemmas.Bool.{eqb-true}
use Rattle.std.proofs.lemmas.List.{map_push}
use Rattle.cargo_lock_parts.specs.Identity.{PackageData}
use Rattle.cargo_lock_query.specs.Lines.{AnswerData, answer_of}
use Rattle.cargo_lock_query.proofs.Answering.{each-said, nothing-said, on-ok}
use Rattle.cargo_lock_query.proofs.Rowing.{some-length}
use Rattle.cargo_lock_query.proofs.answers.add_answers_by.Goals as goal
use Rattle.cargo_lock_query.proofs.answers.add_answers_by.Goals.{then-is_empty+in_ok-push, else-is_empty}

pub returns : goal.returns
returns c =
    let packages : List PackageData = c.args.graph.now.packages in
    let p : PackageData = c.args.asked.now in
    let chains = c.args.chains.now in
    let before : List AnswerData = map answer_of c.args.answers.now.items in
    let now : List AnswerData = map answer_of c.if-is_empty.answers.items in
    let after : List AnswerData = map answer_of c.add_needed.new.answers.items in
    on-ok c.add_needed.result _ _ (λ more. elim c.if-is_empty.branch [
      | then-is_empty+in_ok-push w ↦
          let none : length chains ≡ 0 = eqb-true _ 0 (sym c.is_empty.ensures ∙ w.if-is_empty.true) in
          nothing-said packages p chains before now after none
          (ap (λ v. map answer_of v.items) w.answers-is ∙ ap (map answer_of) w.in_ok-push.ensures.items ∙ map_push answer_of c.args.answers.now.items _) more
      | else-is_empty w ↦
          each-said packages p chains before now after (some-length (length chains) _ refl (sym w.if-is_empty.false ∙ c.is_empty.ensures))
          (ap (λ v. map answer_of v.items) w.answers-is) more
    ]) c.add_needed.ensures
