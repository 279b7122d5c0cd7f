use Rattle.std.proofs.Common.{ap}
use Rattle.std.proofs.lemmas.Result.{IfOk-weaker}
use Rattle.cargo_lock_merge_core.specs.Numbered.{data_if, placed_data}
use Rattle.cargo_lock_merge_core.proofs.Choosing.{choice-both, choice-ours, choice-theirs}
use Rattle.cargo_lock_merge_core.proofs.choices.choose.Goals as goal

pub returns-in-None-Some-clause-ok : goal.returns-in-None-Some-clause-ok
returns-in-None-Some-clause-ok c =
    IfOk-weaker c.choose_only.result _ _
    (λ v h. choice-theirs c.args.commits.now (data_if c.args.base) (data_if c.args.ours) (data_if c.args.theirs) (placed_data c.in-None-Some.only) v
    (ap data_if c.in-None-Some.is-0) (ap data_if c.in-None-Some.is-1) h)
    c.choose_only.ensures.ok

pub returns-in-Some-None-clause-ok : goal.returns-in-Some-None-clause-ok
returns-in-Some-None-clause-ok c =
    IfOk-weaker c.choose_only-in-Some-None.result _ _
    (λ v h. choice-ours c.args.commits.now (data_if c.args.base) (data_if c.args.ours) (data_if c.args.theirs) (placed_data c.in-Some-None.only) v
    (ap data_if c.in-Some-None.is-0) (ap data_if c.in-Some-None.is-1) h)
    c.choose_only-in-Some-None.ensures.ok

pub returns-in-Some-Some-clause-ok : goal.returns-in-Some-Some-clause-ok
returns-in-Some-Some-clause-ok c =
    IfOk-weaker c.choose_of_both.result _ _
    (λ v h. choice-both c.args.commits.now (data_if c.args.base) (data_if c.args.ours) (data_if c.args.theirs) (placed_data c.in-Some-Some.ours) (placed_data c.in-Some-Some.theirs) v
    (ap data_if c.in-Some-Some.is-0) (ap data_if c.in-Some-Some.is-1) h)
    c.choose_of_both.ensures.ok
