use Rattle.std.proofs.Common.{◌∙◌, sym}
use Rattle.cargo_lock_merge_core.specs.Numbered.{placed_data}
use Rattle.cargo_lock_merge_core.proofs.Agreeing.{greater-below, tied-not-below}
use Rattle.cargo_lock_merge_core.proofs.choices.choose_by_version.Goals as goal

pub returns-in-Equal : goal.returns-in-Equal
returns-in-Equal c = λ h. tied-not-below (placed_data c.args.ours) (placed_data c.args.theirs) (sym c.cmp_versions.ensures ∙ c.in-Equal.is) h.1

pub returns-in-Greater : goal.returns-in-Greater
returns-in-Greater c = (
  c.is_version_decisive.ensures.0 c.if-not-is_version_decisive.false,
  greater-below (placed_data c.args.ours) (placed_data c.args.theirs) (sym c.cmp_versions.ensures ∙ c.in-Greater.is),
)
