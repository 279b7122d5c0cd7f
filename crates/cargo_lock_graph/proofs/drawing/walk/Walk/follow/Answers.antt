use Rattle.std.proofs.Common.{◌≡◌, ◌≤◌, ◌-◌, ℕ, suc, List, [], ◌∷◌, ◌++◌, Option, Some, length, vec_capacity, refl, sym, ap, ◌∙◌, append_assoc, arith}
use Rattle.std.specs.Prelude.{slice_get}
use Rattle.std.proofs.lemmas.List.{length_push}
use Rattle.cargo_lock_graph.specs.WalkState.{frames_text, to_come}
use Rattle.cargo_lock_graph.specs.DrawingByLater.{levels_text}
use Rattle.cargo_lock_graph.specs.DrawingText.{standard_symbols}
use Rattle.cargo_lock_graph.proofs.FrameCount.{drawn-same}
use Rattle.cargo_lock_graph.proofs.FrameLevels.{levels_first, levels_push, levels_room, text_first}
use Rattle.cargo_lock_graph.proofs.WalkSteps.{ends_step, followed, held_on, held_pop, known_earlier}
use Rattle.cargo_lock_graph.proofs.drawing.walk.Walk.follow.Goals as goal

pub returns-clause-entry : goal.returns-clause-entry
returns-clause-entry c =
    let walk = c.args.self.now in
    let graph = c.args.graph.now in
    let d = walk.direction in
    let mid = c.put_frame.new.stack in
    let ends = ends_step d graph.edges c.args.edge c.far_end-node.result c.older_edge-older_edge.result (slice_get graph.edges c.args.edge) c.older_edge-older_edge.ensures.edges c.far_end-node.ensures.end in
    let deep : c.len-depth.result ≡ suc (length walk.stack.items) = omega (arith, c.len-depth.ensures, mid.ok.0, ap length c.put_frame.ensures.items, length_push walk.stack.items c.older_edge-older_edge.result) in
    followed d graph.edges walk.visited.items walk.stack.items mid.items (Some c.args.edge) c.older_edge-older_edge.result c.far_end-node.result c.len-depth.result ends c.put_frame.ensures.items deep
    ∙ c.enter.ensures.entry c.len-depth.result c.len-depth.ensures
    ∙ ap (λ (m : ℕ). record { node = m; depth = c.len-depth.result } ∷ to_come graph c.enter.new.self) (sym c.index.ensures)

pub push_level-requires : goal.push_level-requires
push_level-requires c =
    let walk = c.args.self.now in
    let room : suc (length walk.stack.items) ≤ length c.args.graph.now.packages = omega (arith, c.requires.held.room, length_push walk.stack.items (Some c.args.edge)) in
    omega (arith, levels_room _ walk.stack.items walk.levels.items (vec_capacity walk.levels) c.requires.levels room, walk.levels.ok.0)

pub enter-requires-clause-held : goal.enter-requires-clause-held
enter-requires-clause-held c =
    let walk = c.args.self.now in
    let edge = (held_pop _ _ walk.visited.items (walk.stack.items ++ Some c.args.edge ∷ []) walk.stack.items (Some c.args.edge) (vec_capacity walk.stack) refl c.requires.held).1 in
    held_on _ _ walk.visited.items walk.stack.items c.put_frame.new.stack.items (Some c.args.edge) c.older_edge-older_edge.result (vec_capacity walk.stack) _ c.put_frame.ensures.items c.put_frame.ensures.capacity c.requires.held (known_earlier _ c.args.edge c.older_edge-older_edge.result c.older_edge-older_edge.ensures.earlier edge)

pub enter-requires-clause-levels : goal.enter-requires-clause-levels
enter-requires-clause-levels c =
    let walk = c.args.self.now in
    levels_push _ walk.stack.items c.put_frame.new.stack.items c.older_edge-older_edge.result c.is_some.result walk.levels.items c.push_level.new.levels.items (vec_capacity walk.levels) _ c.put_frame.ensures.items c.is_some.ensures c.push_level.ensures.items c.push_level.ensures.capacity c.requires.levels

pub returns-clause-above : goal.returns-clause-above
returns-clause-above c =
    let walk = c.args.self.now in
    let graph = c.args.graph.now in
    let fs : List (Option ℕ) = walk.stack.items in
    let new = c.enter.new.self in
    let more : List (Option ℕ) = c.older_edge-older_edge.result ∷ c.enter.ensures.kept.0 in
    let is : new.stack.items ≡ fs ++ more =
    c.enter.ensures.kept.1 ∙ ap (λ (gs : List (Option ℕ)). gs ++ c.enter.ensures.kept.0) c.put_frame.ensures.items ∙ append_assoc fs (c.older_edge-older_edge.result ∷ []) c.enter.ensures.kept.0 in
    let end : new.above ≡ length (frames_text fs) = c.enter.ensures.above ∙ omega (arith, c.len-self.ensures, walk.levels.ok.0, ap length c.requires.levels.text_is) in
    let first = text_first fs new.stack.items more new.levels.items new.above c.enter.ensures.levels.text_is is end in
    let deep : c.len-depth.result - 1 ≡ length fs = omega (arith, c.len-depth.ensures, c.put_frame.new.stack.ok.0, ap length c.put_frame.ensures.items, length_push fs c.older_edge-older_edge.result) in
    let levels = levels_first new.direction graph.edges new.visited.items fs new.stack.items more c.enter.ensures.on.known is in
    record {
      within = omega (arith, first.0, new.levels.ok.0);
      text_is = first.1 ∙ sym levels ∙ ap (λ (n : ℕ). levels_text standard_symbols n (to_come graph new)) (sym deep);
    }

pub returns-clause-deep : goal.returns-clause-deep
returns-clause-deep c =
    let walk = c.args.self.now in
    omega (arith, c.len-depth.ensures, c.put_frame.new.stack.ok.0, walk.stack.ok.0, ap length c.put_frame.ensures.items, length_push walk.stack.items c.older_edge-older_edge.result)

pub returns-clause-drawn : goal.returns-clause-drawn
returns-clause-drawn c = drawn-same _ _ _ _ _ _ _ c.index.ensures c.len-depth.ensures c.enter.ensures.drawn
