use Rattle.std.proofs.Common.{◌≡◌, take}
use Rattle.cargo_lock_location.specs.Lines.{package_keys_of}
use Rattle.cargo_lock_location.proofs.lines.places_of.Given as goal

-- the keys of the packages so far
abbrev pub invariant-loop-package : goal.invariant-loop-package
invariant-loop-package l = l.keys ≡ package_keys_of (take l.package-index l.packages)
