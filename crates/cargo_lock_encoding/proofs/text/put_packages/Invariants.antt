use Rattle.std.proofs.Common.{◌≡◌, ◌++◌, take, string_bytes}
use Rattle.std.specs.List.{flat_map}
use Rattle.cargo_lock_encoding.specs.Text.{package_lines}
use Rattle.cargo_lock_lines.specs.Layout.{join_lines}
use Rattle.cargo_lock_encoding.proofs.text.put_packages.Given as goal

abbrev pub invariant-loop-package : goal.invariant-loop-package
invariant-loop-package l = string_bytes l.out ≡ string_bytes l.fn.out ++ join_lines (flat_map package_lines (take l.package-index l.packages))
