use Rattle.std.proofs.Common.{◌∙◌, sym}
use Rattle.cargo_lock_audit.specs.FrontMatter.{is_fence}
use Rattle.cargo_lock_audit.proofs.Strips.{position-map}
use Rattle.cargo_lock_audit.proofs.front_matter.first_fence.Goals as goal

pub returns-clause-place : goal.returns-clause-place
returns-clause-place c = c.fence_at.ensures.place ∙ sym (position-map (λ l. l.now) is_fence c.args.body.now)
