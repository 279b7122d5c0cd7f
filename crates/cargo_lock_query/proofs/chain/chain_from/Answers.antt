use Rattle.std.proofs.Common.{◌∙◌, List, ℕ, [], ◌∷◌, ◌++◌, None, ap, subst, sym}
use Rattle.cargo_lock_query.specs.Chains.{needs}
use Rattle.cargo_lock_query.specs.Steps.{AreNearest, IsNearest}
use Rattle.cargo_lock_query.proofs.Walking.{nearest-nearer, some-nearest, walk-end, walk-next, walk-start}
use Rattle.cargo_lock_query.proofs.chain.chain_from.Goals as goal
use Rattle.cargo_lock_query.proofs.chain.chain_from.Goals.{else-walk-test, then-walk-test+in_ok-targets+in_default}

pub walk-init : goal.walk-init
walk-init c =
    walk-start c.args.graph.now c.args.steps.now c.args.to c.args.root c.push.new.self.items c.requires.root
    (c.in_ok-push.ensures.items ∙ ap (λ (ns : List ℕ). ns ++ c.args.root.node ∷ []) c.new-chain.ensures.items)

pub walk-smaller : goal.walk-smaller
walk-smaller c =
    let ns : List ℕ = needs c.args.graph.now c.walk.last.node in
    let near : IsNearest c.args.steps.now ns c.in-Some.next =
    subst (λ (ms : List ℕ). IsNearest c.args.steps.now ms c.in-Some.next) (c.deref.ensures.value ∙ c.in_ok-targets.ensures.are) c.in-Some.ensures in
    nearest-nearer c.args.graph.now c.args.to c.args.steps.now c.walk.last c.in-Some.next c.requires.steps c.walk.invariant.counted (λ at. c.walk-test.true (c.index.ensures ∙ at ∙ sym c.index-in-walk.ensures)) near

pub walk-preserved : goal.walk-preserved
walk-preserved c =
    let ns : List ℕ = needs c.args.graph.now c.walk.last.node in
    let near : IsNearest c.args.steps.now ns c.in-Some.next =
    subst (λ (ms : List ℕ). IsNearest c.args.steps.now ms c.in-Some.next) (c.deref.ensures.value ∙ c.in_ok-targets.ensures.are) c.in-Some.ensures in
    walk-next c.args.graph.now c.args.steps.now c.args.to c.args.root.node c.walk.last c.in-Some.next c.walk.chain.items c.push-in-walk.new.self.items c.requires.steps
    (λ at. c.walk-test.true (c.index.ensures ∙ at ∙ sym c.index-in-walk.ensures)) near c.in_ok-push-2.ensures.items c.walk.invariant

pub returns : goal.returns
returns c = walk-end c.args.graph.now c.args.steps.now c.args.to c.args.root.node c.walk.last c.walk.chain.items
    (elim c.walk-test.branch [
      | else-walk-test w ↦ sym c.index.ensures ∙ w.walk-test.false ∙ c.index-in-walk.ensures
      | then-walk-test+in_ok-targets+in_default w ↦ absurd (some-nearest c.args.graph.now c.args.to c.args.steps.now c.walk.last c.requires.steps c.walk.invariant.counted
          (λ at. w.walk-test.true (c.index.ensures ∙ at ∙ sym c.index-in-walk.ensures))
          (subst (λ (ms : List ℕ). AreNearest c.args.steps.now ms None) (w.deref.ensures.value ∙ w.in_ok-targets.ensures.are) w.in_default.ensures))
    ])
    c.walk.invariant
