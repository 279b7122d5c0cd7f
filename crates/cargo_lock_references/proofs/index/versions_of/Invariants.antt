use Rattle.std.proofs.Common.{◌≡◌, take}
use Rattle.cargo_lock_references.specs.Index.{versions_of}
use Rattle.cargo_lock_references.proofs.index.versions_of.Given as goal

abbrev pub invariant-loop-place : goal.invariant-loop-place
invariant-loop-place g l = l.keys ≡ versions_of g.T.Identified.identity (take l.place l.list)
