use Rattle.std.proofs.Common.{string_bytes}
use Rattle.cargo_lock_encoding.specs.Text.{patch_lines}
use Rattle.cargo_lock_encoding.proofs.Lines.{then-more}
use Rattle.cargo_lock_encoding.proofs.text.put_each_patch.Goals as goal

pub loop-patch-preserved : goal.loop-patch-preserved
loop-patch-preserved c =
    then-more (patch_lines c.args.escaped) c.args.unused.now _ c.patch-item.result (string_bytes c.args.out.now) (string_bytes c.loop-patch.out) _ c.loop-patch-test.true c.patch-item.is c.loop-patch.invariant c.in_ok-put_patch.ensures
