use Rattle.std.proofs.Common.{◌≡◌, ◌++◌, map, take, string_bytes}
use Rattle.std.specs.List.{flat_map}
use Rattle.cargo_lock_parts.specs.Identity.{identity_of}
use Rattle.cargo_lock_encoding.specs.Table.{encoded_package_of}
use Rattle.cargo_lock_encoding.specs.Text.{package_lines}
use Rattle.cargo_lock_lines.specs.Layout.{join_lines}
use Rattle.cargo_lock_encoding.proofs.text.put_each_written.Given as goal

abbrev pub invariant-loop-package : goal.invariant-loop-package
invariant-loop-package l = string_bytes l.out ≡ string_bytes l.fn.out
    ++ join_lines (flat_map (λ p. package_lines (encoded_package_of l.format (map identity_of l.packages) p)) (take l.package-index l.list))
