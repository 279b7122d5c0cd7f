use Rattle.std.proofs.Common.{◌∙◌, Option, ap, refl, subst, sym}
use Rattle.cargo_lock_parts.specs.Identity.{Identity, PackageData}
use Rattle.cargo_lock_edges.specs.Leads.{IsInItsPlace}
use Rattle.cargo_lock_edges.proofs.groups.Groups.stand_in.Goals as goal

pub returns-in-Some : goal.returns-in-Some
returns-in-Some c =
    subst (λ (r : Option Identity). IsInItsPlace c.args.self.now.packages r c.args.near c.nearest_or.result)
    (sym c.in-Some.is ∙ ap (λ (p : PackageData). p.replace) c.«package».view_is) c.nearest_or.ensures

pub returns-in-None : goal.returns-in-None
returns-in-None c =
    subst (λ (r : Option Identity). IsInItsPlace c.args.self.now.packages r c.args.near c.args.near)
    (sym c.in-None.is ∙ ap (λ (p : PackageData). p.replace) c.«package».view_is) refl
