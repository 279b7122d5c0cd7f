use Rattle.std.proofs.Common.{◌≡◌, ◌++◌, take, string_bytes}
use Rattle.std.specs.List.{flat_map}
use Rattle.cargo_lock_lines.specs.Layout.{join_lines}
use Rattle.cargo_lock_encoding.specs.Text.{patch_lines}
use Rattle.cargo_lock_encoding.proofs.text.put_each_patch.Given as goal

abbrev pub invariant-loop-patch : goal.invariant-loop-patch
invariant-loop-patch l = string_bytes l.out ≡ string_bytes l.fn.out ++ join_lines (flat_map (patch_lines l.escaped) (take l.patch-index l.unused))
