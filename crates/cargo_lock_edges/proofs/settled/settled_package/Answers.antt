use Rattle.std.proofs.Common.{◌∙◌, List, ap, subst}
use Rattle.std.specs.List.{AllZip}
use Rattle.cargo_lock_parts.specs.Identity.{Identity, PackageData}
use Rattle.cargo_lock_edges.specs.Settled.{IsSettledAs}
use Rattle.cargo_lock_edges.proofs.settled.settled_package.Goals as goal

pub returns-clause-ok : goal.returns-clause-ok
returns-clause-ok c = record {
  alike = ap (λ (p : PackageData). record p {
    dependencies = c.in_ok-dependencies.dependencies.items;
  }) (c.settled.view_is ∙ c.in_ok-settled.ensures.cases);
  dependencies =
      subst (λ (ds : List Identity). AllZip (IsSettledAs c.args.groups.now.packages) ds c.in_ok-dependencies.dependencies.items)
      (c.deref.ensures.value ∙ ap (λ (p : PackageData). p.dependencies) c.«package».view_is) c.in_ok-dependencies.ensures.ok;
}
