use Rattle.std.proofs.Common.{◌≡◌, ◌∙◌, ℕ, false, replicate, ap, length, subst, vec_capacity, vec_len, arith}
use Rattle.cargo_lock_graph.specs.WalkState.{HasDrawn}
use Rattle.cargo_lock_graph.proofs.WalkSteps.{held_start}
use Rattle.cargo_lock_graph.proofs.drawing.walk.Walk.new.Goals as goal

pub enter-requires-clause-held : goal.enter-requires-clause-held
enter-requires-clause-held c =
    let graph = c.args.graph.now in
    let none : c.in_ok-visited.visited.items ≡ replicate (length graph.packages) false = c.in_ok-visited.ensures.items_if_clones_equal (λ y e. e) ∙ ap (λ (k : ℕ). replicate k false) c.node_count-count.ensures in
    held_start (length graph.packages) (length graph.edges) (vec_capacity c.in_ok-stack.stack) c.in_ok-visited.visited.items c.in_ok-stack.stack.items none c.in_ok-stack.ensures.items (omega (arith, c.node_count-count.ensures, c.in_ok-stack.ensures.capacity))

pub returns-clause-drawn : goal.returns-clause-drawn
returns-clause-drawn c =
    let graph = c.args.graph.now in
    let none : c.in_ok-visited.visited.items ≡ replicate (length graph.packages) false = c.in_ok-visited.ensures.items_if_clones_equal (λ y e. e) ∙ ap (λ (k : ℕ). replicate k false) c.node_count-count.ensures in
    let empty : vec_len c.in_ok-stack.stack ≡ 0 = c.in_ok-stack.ensures.len in
    subst (λ ms. HasDrawn ms c.enter.new.self.visited.items c.args.start 0 (vec_len c.enter.new.self.stack)) none
    (subst (λ n. HasDrawn c.in_ok-visited.visited.items c.enter.new.self.visited.items c.args.start n (vec_len c.enter.new.self.stack)) empty c.enter.ensures.drawn)
