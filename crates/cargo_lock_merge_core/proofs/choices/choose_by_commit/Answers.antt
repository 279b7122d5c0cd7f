use Rattle.cargo_lock_merge_core.specs.Numbered.{placed_data}
use Rattle.cargo_lock_merge_core.proofs.Agreeing.{same-Decides}
use Rattle.cargo_lock_merge_core.proofs.Choosing.{by-commit}
use Rattle.cargo_lock_merge_core.proofs.choices.choose_by_commit.Goals as goal

pub returns-clause-ok : goal.returns-clause-ok
returns-clause-ok c =
    let o = placed_data c.args.ours in
    let t = placed_data c.args.theirs in
    λ b. by-commit c.args.commits.now b o t c.in_ok-ours_at.ours_at c.in_ok-theirs_at.theirs_at c.are_same-same.result c.side_at.result c.requires
    c.in_ok-ours_at.ensures.ok c.in_ok-theirs_at.ensures.ok (same-Decides o t c.are_same-same.result c.are_same-same.ensures) c.side_at.ensures
