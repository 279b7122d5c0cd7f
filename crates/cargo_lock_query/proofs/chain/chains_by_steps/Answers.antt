use Rattle.std.proofs.Common.{◌∙◌, Global, List, ℕ, Option, Vec, ap, map}
use Rattle.std.proofs.lemmas.List.{map_push}
use Rattle.cargo_lock_query.proofs.Walking.{each-all, each-found, each-missed, has-steps}
use Rattle.cargo_lock_query.proofs.chain.chains_by_steps.Goals as goal
use Rattle.cargo_lock_query.proofs.chain.chains_by_steps.Goals.{in-Some+in_ok-chain+in_ok-push, in_default}

pub loop-root-preserved : goal.loop-root-preserved
loop-root-preserved c =
    let steps : List (Option ℕ) = c.args.steps.now in
    let root = c.root-item.result in
    let i = c.loop-root.root-index in
    let chains : List (List ℕ) = map (λ (v : Vec ℕ Global). v.items) c.loop-root.chains.items in
    let low = c.loop-root-test.true in
    let is = c.root-item.is in
    elim c.match-steps_from.branch [
      | in-Some+in_ok-chain+in_ok-push w ↦
          let has = has-steps steps root w.in-Some.left w.in-Some.ensures in
          let long = ap (map (λ (v : Vec ℕ Global). v.items)) w.in_ok-push.ensures.items ∙ map_push (λ (v : Vec ℕ Global). v.items) c.loop-root.chains.items _ in
          rw w.chains-is (each-found c.args.graph.now c.args.to steps c.args.roots.now i root w.in-Some.left chains _ w.in_ok-chain.chain.items c.requires low is has w.in_ok-chain.ensures long c.loop-root.invariant)
      | in_default w ↦ rw w.chains-is (each-missed c.args.graph.now c.args.to steps c.args.roots.now i root chains c.requires low is w.in_default.ensures c.loop-root.invariant)
    ]

pub returns : goal.returns
returns c =
    each-all c.args.graph.now c.args.to c.args.roots.now c.loop-root.root-index (map (λ (v : Vec ℕ Global). v.items) c.loop-root.chains.items) c.loop-root-test.false c.loop-root.invariant
