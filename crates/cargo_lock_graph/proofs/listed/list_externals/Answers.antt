use Rattle.std.proofs.Common.{◌≡◌, ◌<◌, ◌∙◌, ℕ, List, ◌∷◌, ◌++◌, [], ap, append_assoc, length, subst, sym}
use Rattle.std.specs.List.{All}
use Rattle.std.proofs.lemmas.List.{append-nil}
use Rattle.cargo_lock_graph.specs.Edges.{externals}
use Rattle.cargo_lock_graph.proofs.GraphEnds.{externals-below}
use Rattle.cargo_lock_graph.proofs.listed.list_externals.Goals as goal

pub loop-node-init : goal.loop-node-init
loop-node-init c =
    let all : c.into_iter-node-iterator.result ≡ externals c.args.direction c.args.graph.now = cc in
    (tt, tt, ap (λ (ns : List ℕ). ns ++ c.into_iter-node-iterator.result) c.in_ok-nodes.ensures.items ∙ all)

pub loop-node-preserved : goal.loop-node-preserved
loop-node-preserved c =
    let steps = c.in-Some.ensures.steps in (
      tt,
      tt,
      ap (λ (ns : List ℕ). ns ++ c.next.new.self) c.in_ok-push.ensures.items
          ∙ append_assoc c.loop-node.nodes.items (c.in-Some.node ∷ []) c.next.new.self
          ∙ ap (λ (ns : List ℕ). c.loop-node.nodes.items ++ ns) (sym steps) ∙ c.loop-node.invariant.2,
    )

pub returns-clause-are : goal.returns-clause-are
returns-clause-are c =
    let steps = c.in-None.ensures.steps in
    sym (append-nil c.loop-node.nodes.items) ∙ ap (λ (ns : List ℕ). c.loop-node.nodes.items ++ ns) (sym steps.0) ∙ c.loop-node.invariant.2

pub returns-clause-within : goal.returns-clause-within
returns-clause-within c =
    let graph = c.args.graph.now in
    let steps = c.in-None.ensures.steps in
    let are = sym (append-nil c.loop-node.nodes.items) ∙ ap (λ (ns : List ℕ). c.loop-node.nodes.items ++ ns) (sym steps.0) ∙ c.loop-node.invariant.2 in
    subst (λ (ks : List ℕ). All (λ k. k < length graph.packages) ks) (sym are) (externals-below c.args.direction graph)
