use Rattle.std.proofs.Common.{List, arith, subst}
use Rattle.std.specs.List.{AllZip}
use Rattle.std.proofs.lemmas.List.{take_all}
use Rattle.cargo_lock_merge.specs.Referring.{IsReferring}
use Rattle.cargo_lock_graph.proofs.Zipped.{zip-next}
use Rattle.cargo_lock_parts.specs.Identity.{PackageData}
use Rattle.cargo_lock_merge.proofs.referring.refer_as_cargo.Goals as goal

pub loop-package-preserved : goal.loop-package-preserved
loop-package-preserved c =
    zip-next IsReferring c.args.packages.now c.loop-package.package-index c.package-item.result c.loop-package.all.items c.push.new.self.items _ c.loop-package-test.true c.package-item.is c.loop-package.invariant c.in_ok-referring.ensures.ok c.in_ok-push.ensures.items

pub returns-clause-ok : goal.returns-clause-ok
returns-clause-ok c =
    let end = c.loop-package-test.false in
    subst (λ (xs : List PackageData). AllZip IsReferring xs c.loop-package.all.items) (take_all c.loop-package.package-index c.args.packages.now (omega (arith, end))) c.loop-package.invariant
