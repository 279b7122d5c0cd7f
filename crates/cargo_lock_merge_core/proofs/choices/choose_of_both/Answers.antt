use Rattle.std.proofs.Common.{◌∙◌, inl, inr, refl, sym}
use Rattle.cargo_lock_merge_core.specs.Numbered.{placed_data}
use Rattle.cargo_lock_merge_core.proofs.choices.choose_of_both.Goals as goal
use Rattle.cargo_lock_merge_core.proofs.choices.choose_of_both.Goals.{then-is_of_git, else-is_of_git}

pub choose_by_commit-requires : goal.choose_by_commit-requires
choose_by_commit-requires c = elim c.if-is_of_git.branch [
  | then-is_of_git w ↦ (placed_data c.args.ours, inl refl, c.is_of_git.ensures.0 w.if-is_of_git.true)
  | else-is_of_git w ↦ (placed_data c.args.theirs, inr refl, w.is_of_git-else-is_of_git.ensures.0 (sym w.value-is ∙ c.if-is_of_git-2.true))
]

pub returns-else-is_of_git-2-clause-ok : goal.returns-else-is_of_git-2-clause-ok
returns-else-is_of_git-2-clause-ok c = c.choose_by_rule.ensures c.args.commits.now
