use Rattle.std.proofs.Common.{◌≡◌, take, map}
use Rattle.toml.specs.View.{view}
use Rattle.cargo_lock_parts.specs.Identity.{identity_of}
use Rattle.cargo_lock_encoding.specs.Table.{encoded_package_of, encoded_package_value}
use Rattle.cargo_lock_encoding.proofs.table.each_value.Given as goal

abbrev pub invariant-loop-package : goal.invariant-loop-package
invariant-loop-package l =
    map view l.values.items ≡ map encoded_package_value (map (encoded_package_of l.format (map identity_of l.packages)) (take l.package-index l.list))
