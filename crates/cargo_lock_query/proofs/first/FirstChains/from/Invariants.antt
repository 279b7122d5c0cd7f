use Rattle.std.proofs.Common.{◌-◌, length}
use Rattle.cargo_lock_query.specs.FirstChains.{AreFollowed, linked_by}
use Rattle.cargo_lock_query.proofs.first.FirstChains.from.Given as goal

-- what the chains at lower places go on to is found
abbrev pub invariant-following : goal.invariant-following
invariant-following l = AreFollowed l.graph l.fn.starts l.place (linked_by l.chains)

-- there is a chain for each node at most
abbrev pub decreases-following : goal.decreases-following
decreases-following l = length l.graph.packages - l.place
