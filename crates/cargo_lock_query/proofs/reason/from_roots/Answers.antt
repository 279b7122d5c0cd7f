use Rattle.std.proofs.Common.{◌∙◌, ◌<◌, ℕ, List, All, length, subst, sym}
use Rattle.std.specs.List.Sorted.{IsStrictlyIncreasing}
use Rattle.cargo_lock_graph.specs.declared.graph.EdgeDirection.TheVariants.{Incoming}
use Rattle.cargo_lock_graph.proofs.GraphEnds.{externals-below}
use Rattle.cargo_lock_query.proofs.Reasoning.{roots-increasing}
use Rattle.cargo_lock_query.proofs.reason.from_roots.Goals as goal

pub from-requires-clause-ascending : goal.from-requires-clause-ascending
from-requires-clause-ascending c = subst IsStrictlyIncreasing (sym (c.deref.ensures.value ∙ c.in_ok-roots.ensures)) (roots-increasing c.args.graph.now)

pub from-requires-clause-within : goal.from-requires-clause-within
from-requires-clause-within c =
    subst (λ (ks : List ℕ). All (λ k. k < length c.args.graph.now.packages) ks) (sym (c.deref.ensures.value ∙ c.in_ok-roots.ensures)) (externals-below Incoming c.args.graph.now)
