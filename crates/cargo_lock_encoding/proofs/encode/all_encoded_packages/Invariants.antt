use Rattle.std.proofs.Common.{◌≡◌, take, map}
use Rattle.cargo_lock_parts.specs.Identity.{identity_of}
use Rattle.cargo_lock_encoding.specs.Table.{encoded_package_of}
use Rattle.cargo_lock_encoding.proofs.encode.all_encoded_packages.Given as goal

abbrev pub invariant-loop-package : goal.invariant-loop-package
invariant-loop-package l = l.listed.items ≡ map (encoded_package_of l.format (map identity_of l.list)) (take l.package-index l.list)
