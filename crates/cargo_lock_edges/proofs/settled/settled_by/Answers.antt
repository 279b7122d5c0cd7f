use Rattle.std.proofs.Common.{List, subst}
use Rattle.std.proofs.lemmas.List.{take_all}
use Rattle.std.specs.List.{AllZip}
use Rattle.cargo_lock_parts.specs.Identity.{PackageData}
use Rattle.cargo_lock_graph.proofs.Zipped.{zip-next}
use Rattle.cargo_lock_edges.specs.Settled.{IsSettledPackage}
use Rattle.cargo_lock_edges.proofs.settled.settled_by.Goals as goal

pub loop-package-preserved : goal.loop-package-preserved
loop-package-preserved c =
    zip-next (IsSettledPackage c.args.groups.now.packages) c.args.packages.now
    c.loop-package.package-index c.package-item.result c.loop-package.settled.items
    c.push.new.self.items _ c.loop-package-test.true c.package-item.is c.loop-package.invariant
    c.in_ok-settled_package.ensures.ok c.in_ok-push.ensures.items

pub returns-clause-ok : goal.returns-clause-ok
returns-clause-ok c =
    let packages : List PackageData = c.args.packages.now in
    subst (λ (ps : List PackageData). AllZip (IsSettledPackage ps) packages c.loop-package.settled.items)
    c.requires
    (subst (λ (ps : List PackageData). AllZip (IsSettledPackage c.args.groups.now.packages) ps
    c.loop-package.settled.items)
    (take_all c.loop-package.package-index packages c.loop-package-test.false)
    c.loop-package.invariant)
