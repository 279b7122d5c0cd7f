use Rattle.std.proofs.Common.{string_bytes}
use Rattle.cargo_lock_encoding.specs.Text.{package_lines}
use Rattle.cargo_lock_encoding.proofs.Lines.{then-more}
use Rattle.cargo_lock_encoding.proofs.text.put_packages.Goals as goal

pub loop-package-preserved : goal.loop-package-preserved
loop-package-preserved c =
    then-more package_lines c.args.packages.now _ c.package-item.result (string_bytes c.args.out.now) (string_bytes c.loop-package.out) _ c.loop-package-test.true c.package-item.is c.loop-package.invariant c.in_ok-put_encoded.ensures
