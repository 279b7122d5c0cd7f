use Rattle.std.proofs.Common.{◌≡◌, ◌∙◌, ap}
use Rattle.cargo_lock_references.specs.Records.{EncodedPackage}
use Rattle.cargo_lock_limit.specs.Matched.{matched_by_each}
use Rattle.cargo_lock_limit.proofs.Counting.{counted-next}
use Rattle.cargo_lock_limit.proofs.matched.with_all.Goals as goal

pub loop-package-preserved : goal.loop-package-preserved
loop-package-preserved c =
    let same : c.as_slice.result.now ≡ c.package-item.result.dependencies = c.as_slice.ensures.value ∙ ap (λ (p : EncodedPackage). p.dependencies) c.package.view_is in
    counted-next (λ (p : EncodedPackage). matched_by_each c.args.list.now p.dependencies) c.args.packages.now c.loop-package.package-index c.package-item.result c.args.number c.loop-package.total
    c.with_each-total.result c.loop-package-test.true c.package-item.is c.loop-package.invariant (rw same at c.with_each-total.ensures)
