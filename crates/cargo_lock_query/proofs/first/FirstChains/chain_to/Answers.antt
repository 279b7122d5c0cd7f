use Rattle.cargo_lock_query.specs.FirstChains.{linked_by}
use Rattle.cargo_lock_query.proofs.Following.{first-chain, links-below, no-chain}
use Rattle.cargo_lock_query.proofs.Walking.{has-steps, no-steps}
use Rattle.cargo_lock_query.proofs.first.FirstChains.chain_to.Goals as goal

pub chain_at-requires : goal.chain_at-requires
chain_at-requires c = let (graph, starts, are) = c.requires in links-below graph starts (linked_by c.args.self.now) are

pub returns-in_ok-chain-in-Some : goal.returns-in_ok-chain-in-Some
returns-in_ok-chain-in-Some c = λ graph starts are low.
    first-chain graph starts (linked_by c.args.self.now) c.args.to c.in-Some.place c.in_ok-chain-in-Some.chain.items are
    (has-steps c.args.self.now.places.items c.args.to c.in-Some.place c.in-Some.ensures)
    (λ trail e is at. c.in_ok-chain-in-Some.ensures graph starts trail e is at)

pub returns-in-None : goal.returns-in-None
returns-in-None c = λ graph starts are low.
    no-chain graph starts (linked_by c.args.self.now) c.args.to are (λ place. no-steps c.args.self.now.places.items c.args.to place c.in-None.ensures)
