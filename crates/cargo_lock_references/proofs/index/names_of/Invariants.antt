use Rattle.std.proofs.Common.{◌≡◌, take}
use Rattle.cargo_lock_references.specs.Index.{names_of}
use Rattle.cargo_lock_references.proofs.index.names_of.Given as goal

abbrev pub invariant-loop-place : goal.invariant-loop-place
invariant-loop-place g l = l.keys ≡ names_of g.T.Identified.identity (take l.place l.list)
