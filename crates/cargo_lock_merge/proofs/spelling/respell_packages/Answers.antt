use Rattle.std.proofs.Common.{◌∙◌, ap, slice_set, sym}
use Rattle.std.proofs.lemmas.List.Edits.{map_over_more}
use Rattle.cargo_lock_merge.specs.Spelling.{package_as_written}
use Rattle.cargo_lock_merge.proofs.spelling.respell_packages.Goals as goal

pub loop-package-preserved : goal.loop-package-preserved
loop-package-preserved c =
    let l = c.loop-package in
    let one = c.package-item.result in
    ap (λ d. slice_set l.packages l.package-index d) (c.in_ok-respell_package.ensures.ok ∙ ap package_as_written (sym c.package-item.is))
    ∙ map_over_more package_as_written c.args.packages.now l.packages l.package-index one c.loop-package-test.true l.invariant c.package-item.is
