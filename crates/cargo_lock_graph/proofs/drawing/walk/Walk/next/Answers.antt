use Rattle.std.proofs.Common.{◌≡◌, ℕ, Bool, List, [], ◌∷◌, ◌++◌, length, Option, sym, ap, subst, ◌∙◌, vec_capacity, arith}
use Rattle.std.proofs.lemmas.List.{length_push, nil_from_length}
use Rattle.cargo_lock_graph.specs.WalkState.{IsHeld, HasLevels, entries_to_come, frames_text}
use Rattle.cargo_lock_graph.proofs.FrameLevels.{levels_before, levels_pop}
use Rattle.cargo_lock_graph.proofs.WalkSteps.{coming_end, coming_done, held_pop}
use Rattle.cargo_lock_graph.proofs.drawing.walk.Walk.next.Goals as goal

pub loop-frame-preserved : goal.loop-frame-preserved
loop-frame-preserved c =
    let graph = c.args.graph.now in
    let walk = c.loop-frame.self in
    let marks : List Bool = walk.visited.items in
    let fs : List (Option ℕ) = c.pop.new.self.items in
    let f : Option ℕ = c.in-Some.frame in
    let split : walk.stack.items ≡ fs ++ f ∷ [] = c.in-Some.ensures.items in
    let before = levels_before _ walk.stack.items fs f c.is_some.result walk.levels.items (vec_capacity walk.levels) split c.is_some.ensures c.loop-frame.invariant.levels in
    let popped = (held_pop _ _ marks walk.stack.items fs f (vec_capacity walk.stack) split c.loop-frame.invariant.on).0 in
    record {
      on = subst (λ (n : ℕ). IsHeld (length graph.packages) (length graph.edges) marks fs n) (sym c.in-Some.ensures.capacity) popped;
      levels = levels_pop _ walk.stack.items fs walk.levels.items c.pop_level.new.levels.items (vec_capacity walk.levels) _ (c.pop_level.ensures.items (frames_text fs) before) c.pop_level.ensures.capacity c.loop-frame.invariant.levels;
      direction = c.loop-frame.invariant.direction;
      marks = c.loop-frame.invariant.marks;
      fewer = omega (arith, c.loop-frame.invariant.fewer, walk.stack.ok.0, c.pop.new.self.ok.0, ap length split, length_push fs f);
      same = sym (coming_done walk.direction graph.edges marks walk.stack.items fs f split c.in_default-frame.is) ∙ c.loop-frame.invariant.same;
    }

pub returns-clause-entry : goal.returns-clause-entry
returns-clause-entry c =
    let walk = c.loop-frame.self in
    let edges = c.args.graph.now.edges in
    let marks : List Bool = walk.visited.items in
    let empty : walk.stack.items ≡ [] = nil_from_length walk.stack.items (omega (arith, c.in_default.ensures.cases.0, walk.stack.ok.0)) in
    sym c.loop-frame.invariant.same ∙ ap (entries_to_come walk.direction edges marks) empty ∙ coming_end walk.direction edges marks

pub pop_level-requires : goal.pop_level-requires
pop_level-requires c =
    let walk = c.loop-frame.self in
    let fs : List (Option ℕ) = c.pop.new.self.items in
    (frames_text fs, levels_before _ walk.stack.items fs c.in-Some.frame c.is_some.result walk.levels.items (vec_capacity walk.levels) c.in-Some.ensures.items c.is_some.ensures c.loop-frame.invariant.levels)

pub follow-requires-clause-levels : goal.follow-requires-clause-levels
follow-requires-clause-levels c =
    let walk = c.loop-frame.self in
    let fs : List (Option ℕ) = c.pop.new.self.items in
    let before = levels_before _ walk.stack.items fs c.in-Some.frame c.is_some.result walk.levels.items (vec_capacity walk.levels) c.in-Some.ensures.items c.is_some.ensures c.loop-frame.invariant.levels in
    levels_pop _ walk.stack.items fs walk.levels.items c.pop_level.new.levels.items (vec_capacity walk.levels) _ (c.pop_level.ensures.items (frames_text fs) before) c.pop_level.ensures.capacity c.loop-frame.invariant.levels

pub returns-clause-levels : goal.returns-clause-levels
returns-clause-levels c =
    let walk = c.loop-frame.self in
    let graph = c.args.graph.now in
    let before : walk.stack.items ≡ [] = nil_from_length walk.stack.items (omega (arith, c.in_default.ensures.cases.0, walk.stack.ok.0)) in
    let after : c.pop.new.self.items ≡ [] = nil_from_length c.pop.new.self.items (omega (arith, c.in_default.ensures.cases.1, c.pop.new.self.ok.0)) in
    subst (λ (fs : List (Option ℕ)). HasLevels (length graph.packages) fs walk.levels.items (vec_capacity walk.levels)) (before ∙ sym after) c.loop-frame.invariant.levels
