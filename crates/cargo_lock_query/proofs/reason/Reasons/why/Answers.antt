use Rattle.std.proofs.Common.{Option, ℕ, Global, Vec, subst}
use Rattle.std.specs.Option.{MatchOption}
use Rattle.std.proofs.lemmas.Result.{IfOk-weaker}
use Rattle.cargo_lock_query.specs.Chains.{IsShortestChain, IsUnreached}
use Rattle.cargo_lock_query.specs.Starts.{roots}
use Rattle.cargo_lock_query.proofs.Reasoning.{starts-of-chain, starts-of-none}
use Rattle.cargo_lock_query.proofs.reason.Reasons.why.Goals as goal

pub returns-in-Some : goal.returns-in-Some
returns-in-Some c = λ graph are low.
    let to = c.args.to in
    let found : IsShortestChain graph (roots graph) to c.in-Some.chain.items =
    subst (λ (o : Option (Vec ℕ Global)). MatchOption o (IsUnreached graph (roots graph) to) (λ (v : Vec ℕ Global). IsShortestChain graph (roots graph) to v.items)) c.in-Some.is
    (c.in_ok-chain.ensures graph (roots graph) are.of_roots low) in
    (roots graph, starts-of-chain graph to c.in-Some.chain.items found, found)

pub returns-in-None : goal.returns-in-None
returns-in-None c = IfOk-weaker c.chain_to-in-None.result _ _ (λ answer h. λ graph are low.
    let to = c.args.to in
    let none : IsUnreached graph (roots graph) to =
    subst (λ (o : Option (Vec ℕ Global)). MatchOption o (IsUnreached graph (roots graph) to) (λ (v : Vec ℕ Global). IsShortestChain graph (roots graph) to v.items)) c.in-None.is
    (c.in_ok-chain.ensures graph (roots graph) are.of_roots low) in
    (are.members, starts-of-none graph to are.members none are.are_members, h graph are.members are.of_members low)) c.chain_to-in-None.ensures
