use Rattle.cargo_lock_query.proofs.Walking.{chain-best}
use Rattle.cargo_lock_query.proofs.chain.chain_by_steps.Goals as goal

pub returns-in_ok-chain-in-Some : goal.returns-in_ok-chain-in-Some
returns-in_ok-chain-in-Some c =
    chain-best c.args.graph.now c.args.steps.now c.args.to c.args.roots.now c.in-Some.root c.in_ok-chain-in-Some.chain.items
    c.requires c.in-Some.ensures c.in_ok-chain-in-Some.ensures
