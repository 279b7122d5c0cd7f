use Rattle.std.proofs.Common.{◌≡◌, ◌++◌, map, take}
use Rattle.cargo_lock_merge.specs.declared.conflict.Conflict.TheVariants.{OfSource}
use Rattle.cargo_lock_merge.proofs.conflict.put_sources.Given as goal

abbrev pub invariant-loop-one : goal.invariant-loop-one
invariant-loop-one l = l.all.items ≡ l.initial.all.items ++ map OfSource (take l.one-index l.sources)
