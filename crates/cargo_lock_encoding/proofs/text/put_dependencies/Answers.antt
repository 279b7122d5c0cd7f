use Rattle.std.proofs.Common.{string_bytes}
use Rattle.cargo_lock_encoding.proofs.Lines.{then-dependencies}
use Rattle.cargo_lock_encoding.proofs.text.put_dependencies.Goals as goal

pub returns : goal.returns
returns c =
    then-dependencies c.args.dependencies.now (string_bytes c.args.out.now) _ _ _ c.in_ok-push_str.ensures.bytes c.in_ok-put_each_dependency.ensures c.in_ok-push_str-2.ensures.bytes
