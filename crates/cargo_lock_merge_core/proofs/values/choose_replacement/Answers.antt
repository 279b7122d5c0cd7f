use Rattle.std.proofs.Common.{◌∙◌, ℕ, Option, ap, subst, sym}
use Rattle.cargo_lock_merge_core.specs.Agreed.{AreEqual}
use Rattle.cargo_lock_merge_core.specs.Choices.{replacement_if, if_same}
use Rattle.cargo_lock_merge_core.specs.Numbered.{data_if, placed_data}
use Rattle.cargo_lock_merge_core.specs.Placed.{PlacedData}
use Rattle.cargo_lock_merge_core.proofs.Valuing.{value-both, value-none, value-ours, value-theirs}
use Rattle.cargo_lock_merge_core.proofs.values.choose_replacement.Goals as goal

pub returns-in-Some-Some : goal.returns-in-Some-Some
returns-in-Some-Some c =
    let o = data_if c.args.ours in
    let t = data_if c.args.theirs in
    let x = placed_data c.args.chosen in
    let y = placed_data c.in-Some-Some.ours in
    let z = placed_data c.in-Some-Some.theirs in
    let e = c.equal_replacements.result in
    let are = subst (λ (b : Option (PlacedData ℕ)). AreEqual {X = Option ℕ} (replacement_if b) c.in-Some-Some.ours.replacement c.in-Some-Some.theirs.replacement e) c.if_same-base.ensures c.equal_replacements.ensures in
    value-both (λ (y : PlacedData ℕ). y.replacement) (replacement_if (if_same x (data_if c.args.base))) o t x y z e c.agreed_side.result
    (sym c.if_same.ensures ∙ ap data_if c.in-Some-Some.is-0) (sym c.if_same-2.ensures ∙ ap data_if c.in-Some-Some.is-1) are c.agreed_side.ensures

pub returns-in-Some-None : goal.returns-in-Some-None
returns-in-Some-None c =
    let o = data_if c.args.ours in
    let t = data_if c.args.theirs in
    let x = placed_data c.args.chosen in
    value-ours (λ (y : PlacedData ℕ). y.replacement) (replacement_if (if_same x (data_if c.args.base))) o t x (placed_data c.in-Some-None.field-0-0)
    (sym c.if_same.ensures ∙ ap data_if c.in-Some-None.is-0) (sym c.if_same-2.ensures ∙ ap data_if c.in-Some-None.is-1)

pub returns-in-None-Some : goal.returns-in-None-Some
returns-in-None-Some c =
    let o = data_if c.args.ours in
    let t = data_if c.args.theirs in
    let x = placed_data c.args.chosen in
    value-theirs (λ (y : PlacedData ℕ). y.replacement) (replacement_if (if_same x (data_if c.args.base))) o t x (placed_data c.in-None-Some.field-0-1)
    (sym c.if_same.ensures ∙ ap data_if c.in-None-Some.is-0) (sym c.if_same-2.ensures ∙ ap data_if c.in-None-Some.is-1)

pub returns-in-None-None : goal.returns-in-None-None
returns-in-None-None c =
    let o = data_if c.args.ours in
    let t = data_if c.args.theirs in
    let x = placed_data c.args.chosen in
    absurd (value-none (λ (y : PlacedData ℕ). y.replacement) (replacement_if (if_same x (data_if c.args.base))) o t x c.requires
    (sym c.if_same.ensures ∙ ap data_if c.in-None-None.is-0) (sym c.if_same-2.ensures ∙ ap data_if c.in-None-None.is-1))
