use Rattle.std.proofs.Common.{◌<◌, ℕ, List, All, length, subst, sym}
use Rattle.lists.proofs.Places.{places-within}
use Rattle.cargo_lock_query.proofs.reason.from_members.Goals as goal

pub from-requires-clause-within : goal.from-requires-clause-within
from-requires-clause-within c =
    subst (λ (ks : List ℕ). All (λ k. k < length c.args.graph.now.packages) ks) (sym c.deref.ensures.value) (places-within _ _ _ c.in_ok-members.ensures)
