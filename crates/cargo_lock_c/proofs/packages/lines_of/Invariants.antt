use Rattle.std.proofs.Common.{◌≡◌, true, take, string_bytes}
use Rattle.std.specs.List.{All, flat_map}
use Rattle.cargo_lock_c.specs.Packages.{has_line, tabbed_line}
use Rattle.cargo_lock_c.proofs.packages.lines_of.Given as goal

abbrev pub invariant-loop-package : goal.invariant-loop-package
invariant-loop-package l = All (λ p. has_line p ≡ true) (take l.package-index l.packages)
    × (string_bytes l.lines ≡ flat_map tabbed_line (take l.package-index l.packages))
