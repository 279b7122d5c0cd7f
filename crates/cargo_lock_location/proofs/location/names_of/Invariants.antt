use Rattle.std.proofs.Common.{◌≡◌, Some, map, option_map, take}
use Rattle.cargo_lock_location.proofs.location.names_of.Given as goal

-- the names of the packages so far
abbrev pub invariant-loop-package : goal.invariant-loop-package
invariant-loop-package l = map (option_map (λ t. t.now)) l.names.items ≡ map Some (map (λ p. p.name) (take l.package-index l.packages))
