use Rattle.std.proofs.Common.{cond, None, ap, sym, ◌∙◌}
use Rattle.std.specs.BTreeMap.{is_at}
use Rattle.std.specs.Cmp.Lexicographic.{slice_cmp}
use Rattle.std.specs.Map.{lookup}
use Rattle.std.specs.Ordering.{nat_cmp}
use Rattle.cargo_lock_merge.specs.OwnMetadata.{is_checksum_at}
use Rattle.cargo_lock_merge.proofs.MetadataMerging.{without-more}
use Rattle.cargo_lock_references.specs.Records.{texts_of}
use Rattle.cargo_lock_references.proofs.Texts.{get-view}
use Rattle.cargo_lock_merge.proofs.metadata.without_packages.Goals as goal

pub loop-package-init : goal.loop-package-init
loop-package-init c = λ key. ap (lookup (is_at (slice_cmp nat_cmp key))) c.in_ok-own.ensures ∙ sym (get-view c.args.metadata.now key)

pub loop-package-preserved : goal.loop-package-preserved
loop-package-preserved c = λ key.
    c.in_ok-remove_checksum.ensures.ok key ∙ ap (λ o. cond (is_checksum_at key c.package-item.result) None o) (c.loop-package.invariant key)
    ∙ sym (without-more (texts_of c.args.metadata.now.entries) c.args.packages.now c.loop-package.package-index c.package-item.result key c.loop-package-test.true c.package-item.is)
