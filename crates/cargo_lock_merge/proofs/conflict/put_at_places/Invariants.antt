use Rattle.std.proofs.Common.{◌≡◌, ◌++◌, map, take}
use Rattle.cargo_lock_merge.specs.declared.conflict.Conflict.TheVariants.{AtPlace}
use Rattle.cargo_lock_merge.proofs.conflict.put_at_places.Given as goal

abbrev pub invariant-loop-one : goal.invariant-loop-one
invariant-loop-one l = l.all.items ≡ l.initial.all.items ++ map AtPlace (take l.one-index l.at_places)
