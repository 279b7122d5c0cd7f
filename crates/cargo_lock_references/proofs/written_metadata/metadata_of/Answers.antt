use Rattle.std.proofs.Common.{ap, ◌∙◌, sym}
use Rattle.cargo_lock_references.specs.Records.{texts_of}
use Rattle.cargo_lock_references.proofs.ChecksumKeys.{metadata-none, metadata-more}
use Rattle.cargo_lock_references.proofs.written_metadata.metadata_of.Goals as goal

pub loop-package-init : goal.loop-package-init
loop-package-init c = ap texts_of c.in_ok-written.ensures ∙ sym (metadata-none c.args.format _)

pub loop-package-preserved : goal.loop-package-preserved
loop-package-preserved c =
    metadata-more c.args.format _ (texts_of c.loop-package.written.entries) _ c.args.packages.now c.loop-package.package-index c.package-item.result
    c.loop-package-test.true c.package-item.is c.loop-package.invariant c.in_ok-write_checksum.ensures.ok
