use Rattle.std.proofs.Common.{◌≡◌, ◌++◌}
use Rattle.std.specs.BTreeSet.{keys}
use Rattle.cargo_lock_merge.proofs.patches.list_of.Given as goal

-- the list has the patches that are not left
abbrev pub invariant-loop-patch : goal.invariant-loop-patch
invariant-loop-patch l = record {
  next : (goal.iterator-loop-patch).can_next l.patch-iterator;
  finite : (goal.iterator-loop-patch).is_finite l.patch-iterator;
  items : l.list.items ++ l.patch-iterator ≡ keys l.set;
}
