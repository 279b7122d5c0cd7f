use Rattle.std.proofs.Common.{map, string_bytes}
use Rattle.cargo_lock_parts.specs.Identity.{identity_of}
use Rattle.cargo_lock_encoding.specs.Table.{encoded_package_of}
use Rattle.cargo_lock_encoding.specs.Text.{package_lines}
use Rattle.cargo_lock_encoding.proofs.Lines.{then-more}
use Rattle.cargo_lock_encoding.proofs.text.put_each_written.Goals as goal

pub loop-package-preserved : goal.loop-package-preserved
loop-package-preserved c =
    then-more (λ p. package_lines (encoded_package_of c.args.format (map identity_of c.args.packages.now) p)) c.args.list.now _ c.package-item.result (string_bytes c.args.out.now) (string_bytes c.loop-package.out) _ c.loop-package-test.true c.package-item.is c.loop-package.invariant c.in_ok-put_written.ensures
