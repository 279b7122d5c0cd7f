use Rattle.std.proofs.Common.{◌+◌, length}
use Rattle.cargo_lock_query.specs.Steps.{IsStepSearch, met_by, uncounted}
use Rattle.cargo_lock_query.proofs.steps.steps_to.Given as goal

abbrev pub invariant-widening : goal.invariant-widening
invariant-widening l = IsStepSearch l.graph l.fn.to l.depth (met_by l.search)

-- the nodes that are not counted, and those whose needers are not
abbrev pub decreases-widening : goal.decreases-widening
decreases-widening l = uncounted l.search.steps.items + length l.search.newest.items
