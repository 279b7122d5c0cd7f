use Rattle.std.proofs.Common.{◌≡◌, ◌++◌, map, take}
use Rattle.cargo_lock_audit.specs.Pairs.{advisory_pair_of, advisory_pairs_of}
use Rattle.cargo_lock_audit.proofs.pair.put_pairs.Given as goal

-- the pairs with the advisories so far were added
abbrev pub invariant-loop-advisory : goal.invariant-loop-advisory
invariant-loop-advisory l = map advisory_pair_of l.pairs.items
    ≡ map advisory_pair_of l.initial.pairs.items ++ advisory_pairs_of l.registries (take l.advisory-index l.advisories) l.package
