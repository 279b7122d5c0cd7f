use Rattle.std.proofs.Common.{◌↔◌, ℕ, Option, Some, ap, subst, sym}
use Rattle.std.specs.List.{Contains}
use Rattle.std.proofs.lemmas.Result.{IfOk-weaker}
use Rattle.cargo_lock_merge_core.specs.Choices.{IsDependencyOf}
use Rattle.cargo_lock_merge_core.specs.Numbered.{data_if, placed_data}
use Rattle.cargo_lock_merge_core.specs.Placed.{PlacedData}
use Rattle.cargo_lock_merge_core.proofs.references.dependencies_of_chosen.Goals as goal

pub returns-in-Some-Some-clause-holds : goal.returns-in-Some-Some-clause-holds
returns-in-Some-Some-clause-holds c =
    let b = data_if c.args.base in
    let x = placed_data c.args.chosen in
    let eo = ap data_if c.in-Some-Some.is-0 in
    let et = ap data_if c.in-Some-Some.is-1 in
    IfOk-weaker c.dependencies_of_both.result _ _
    (λ v holds d. subst (λ (o : Option (PlacedData ℕ)). Contains v.items d ↔ IsDependencyOf b o (data_if c.args.theirs) x d) (sym eo)
    (subst (λ (t : Option (PlacedData ℕ)). Contains v.items d ↔ IsDependencyOf b (Some (placed_data c.in-Some-Some.ours)) t x d) (sym et) (holds d)))
    c.dependencies_of_both.ensures.holds
