use Rattle.cargo_lock_edges.proofs.NearestPlaces.{nearest-within}
use Rattle.cargo_lock_edges.proofs.groups.Groups.lead.Goals as goal

pub returns-in_err-near : goal.returns-in_err-near
returns-in_err-near c = rw c.from_residual.ensures c.in_err-near.ensures

pub standing_for-requires : goal.standing_for-requires
standing_for-requires c = nearest-within c.args.self.now.packages c.args.dependency.now
    c.in_ok-near.near c.in_ok-near.ensures

pub returns : goal.returns
returns c = record {
  near = c.in_ok-near.near;
  nearest = c.in_ok-near.ensures;
  stands = c.standing_for.ensures;
}
