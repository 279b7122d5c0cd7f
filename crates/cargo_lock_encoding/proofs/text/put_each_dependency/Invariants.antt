use Rattle.std.proofs.Common.{◌≡◌, ◌++◌, map, take, string_bytes}
use Rattle.cargo_lock_encoding.specs.Text.{dependency_line}
use Rattle.cargo_lock_lines.specs.Layout.{join_lines}
use Rattle.cargo_lock_encoding.proofs.text.put_each_dependency.Given as goal

abbrev pub invariant-loop-dependency : goal.invariant-loop-dependency
invariant-loop-dependency l = string_bytes l.out ≡ string_bytes l.fn.out ++ join_lines (map dependency_line (take l.dependency-index l.dependencies))
