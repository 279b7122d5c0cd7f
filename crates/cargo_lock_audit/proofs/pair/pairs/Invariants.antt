use Rattle.std.proofs.Common.{◌≡◌, map, take}
use Rattle.cargo_lock_audit.specs.Pairs.{advisory_pair_of}
use Rattle.cargo_lock_audit.specs.Pairs as spec
use Rattle.cargo_lock_audit.proofs.pair.pairs.Given as goal

-- the pairs of the packages so far
abbrev pub invariant-loop-package : goal.invariant-loop-package
invariant-loop-package l = map advisory_pair_of l.pairs.items ≡ spec.pairs l.registries (take l.package-index l.packages) l.advisories
