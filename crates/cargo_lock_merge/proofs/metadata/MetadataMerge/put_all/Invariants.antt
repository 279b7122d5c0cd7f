use Rattle.std.proofs.Common.{◌≡◌, ◌⊎◌, ℕ, List, None}
use Rattle.std.specs.BTreeMap.{is_at}
use Rattle.std.specs.Cmp.Lexicographic.{slice_cmp}
use Rattle.std.specs.Map.{lookup}
use Rattle.std.specs.Ordering.{nat_cmp}
use Rattle.cargo_lock_merge.specs.OwnMetadata.{IsMergedKey, IsReadyKey, value_at_key}
use Rattle.cargo_lock_merge.proofs.metadata.MetadataMerge.put_all.Given as goal

-- each key that is not left is merged, if it is one of the keys
abbrev pub invariant-loop-key : goal.invariant-loop-key
invariant-loop-key l = record {
  next : (goal.iterator-loop-key).can_next l.key-iterator;
  finite : (goal.iterator-loop-key).is_finite l.key-iterator;
  ready : (q : List ℕ) → IsReadyKey l.sides l.self q;
  kept : (q : List ℕ) → IsMergedKey l.sides l.fn.self q → IsMergedKey l.sides l.self q;
  passed : (q : List ℕ) → lookup (is_at (slice_cmp nat_cmp q)) l.key-iterator ≡ None → (value_at_key l.keys q ≡ None) ⊎ IsMergedKey l.sides l.self q;
}
