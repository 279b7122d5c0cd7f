use Rattle.std.proofs.Common.{◌∙◌, ap, sym}
use Rattle.cargo_lock_parts.specs.Identity.{PackageData}
use Rattle.cargo_lock_merge_core.proofs.Sources.{of-git}
use Rattle.cargo_lock_merge_core.proofs.placed.is_of_git.Goals as goal

pub returns-in-Some : goal.returns-in-Some
returns-in-Some c = of-git c.args.«package».now.source c.in-Some.source c.is_git.result (ap (λ (p : PackageData). p.source) (sym c.«package».view_is) ∙ c.in-Some.is) c.is_git.ensures
