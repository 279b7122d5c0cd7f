use Rattle.std.proofs.Common.{string_bytes}
use Rattle.cargo_lock_encoding.specs.Text.{dependency_line}
use Rattle.cargo_lock_encoding.proofs.Lines.{then-one}
use Rattle.cargo_lock_encoding.proofs.text.put_each_dependency.Goals as goal

pub loop-dependency-preserved : goal.loop-dependency-preserved
loop-dependency-preserved c =
    then-one dependency_line c.args.dependencies.now _ c.dependency-item.result (string_bytes c.args.out.now) (string_bytes c.loop-dependency.out) _ c.loop-dependency-test.true c.dependency-item.is c.loop-dependency.invariant c.in_ok-put_dependency.ensures
