use Rattle.std.proofs.Common.{◌≡◌, filter, map, take}
use Rattle.cargo_lock_audit.specs.Coverage.{is_compared, is_not_compared, package_by_place}
use Rattle.cargo_lock_audit.proofs.coverage.Coverage.of.Given as goal

-- the packages so far, those that are compared and the others
abbrev pub invariant-loop-package : goal.invariant-loop-package
invariant-loop-package l =
    (map package_by_place l.coverage.compared.items ≡ filter (is_compared l.registries) (take l.package-index l.packages))
    × (map package_by_place l.coverage.not_compared.items ≡ filter (is_not_compared l.registries) (take l.package-index l.packages))
    × (l.coverage.advisories ≡ l.advisories)
