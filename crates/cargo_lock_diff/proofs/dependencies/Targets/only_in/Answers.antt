use Rattle.std.proofs.Common.{◌∙◌}
use Rattle.cargo_lock_diff.specs.Difference.{dependencies_at}
use Rattle.cargo_lock_diff.proofs.Leads.{only-by-sorted}
use Rattle.cargo_lock_diff.proofs.dependencies.Targets.only_in.Goals as goal

pub returns : goal.returns
returns c =
    c.in_ok-only.ensures
    ∙ only-by-sorted c.args.forward c.args.self.now c.args.these.now.items c.args.others.now.items (dependencies_at c.in_ok-others.others.items) c.in_ok-others.ensures.items
