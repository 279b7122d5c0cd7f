use Rattle.std.proofs.Common.{◌≤◌, ℕ, List, subst, sym}
use Rattle.std.specs.List.{AllPairs}
use Rattle.cargo_lock_edges.proofs.GroupsAscend.{ascending-places}
use Rattle.cargo_lock_edges.proofs.groups.Groups.places.Goals as goal

pub returns-clause-ascend : goal.returns-clause-ascend
returns-clause-ascend c =
    subst (λ (ks : List ℕ). AllPairs (λ a b. a ≤ b) ks) (sym c.places.ensures)
    (ascending-places c.self.inside.groups _ c.args.number c.self.invariant.groups.ascend)
