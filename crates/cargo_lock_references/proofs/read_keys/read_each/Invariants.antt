use Rattle.std.proofs.Common.{◌≡◌, ℕ, List}
use Rattle.std.specs.Option.{option_or}
use Rattle.semver.specs.Parse.{Parts}
use Rattle.cargo_lock_references.specs.ReadKeys.{first_value, value_at}
use Rattle.cargo_lock_references.proofs.read_keys.read_each.Given as goal

-- the first value among all keys is that among those read, or else that among the rest
abbrev pub invariant-loop-key : goal.invariant-loop-key
invariant-loop-key l =
    (goal.iterator-loop-key).can_next l.key-iterator
    × (goal.iterator-loop-key).is_finite l.key-iterator
    × ((name : List ℕ) (version : Parts) → option_or (value_at l.checksums name version) (first_value l.key-iterator name version) ≡ first_value l.metadata.entries name version)
