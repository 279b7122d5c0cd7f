use Rattle.std.proofs.Common.{◌∙◌, ap, ap₂, arith, sym}
use Rattle.cargo_lock_references.specs.Records.{texts_of}
use Rattle.cargo_lock_parts.specs.Identity.{PackageData}
use Rattle.cargo_lock.specs.CargoChecksums.{cargo_checksum, with_checksum}
use Rattle.cargo_lock.proofs.EachInPlace.{one-more}
use Rattle.cargo_lock.proofs.lockfile.checksums.put_checksums.Goals as goal

pub loop-package-preserved : goal.loop-package-preserved
loop-package-preserved c =
    let within = c.loop-package-test.true in
    let long = c.loop-package.auto.packages in
    let f : PackageData → PackageData = λ p. with_checksum (cargo_checksum c.args.version (texts_of c.args.metadata.now.entries) p) p in
    one-more f c.args.packages.now
    c.loop-package.packages c.loop-package.package-index c.package-item.result _ (omega (arith, within, long)) c.loop-package.invariant c.package-item.is
    (ap₂ with_checksum c.in_ok-package-inside.ensures.ok c.package.view_is ∙ ap f (sym c.package-item.is))
