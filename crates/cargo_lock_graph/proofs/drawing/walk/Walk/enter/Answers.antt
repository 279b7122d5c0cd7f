use Rattle.std.proofs.Common.{◌≡◌, ℕ, Bool, true, false, List, ◌∷◌, length, get_or, set, map, Option, refl, sym, ap, subst, ◌∙◌, vec_capacity, arith}
use Rattle.std.proofs.lemmas.List.{length_push}
use Rattle.cargo_lock_graph.specs.declared.drawing.entry.Entry.{Entry}
use Rattle.cargo_lock_graph.specs.Edges.{far_end}
use Rattle.cargo_lock_graph.specs.WalkState.{IsHeld, entries_to_come}
use Rattle.cargo_lock_graph.proofs.FrameCount.{drawn-again, drawn-new}
use Rattle.cargo_lock_graph.proofs.FrameLevels.{levels_push, levels_room}
use Rattle.cargo_lock_graph.proofs.WalkSteps.{entered_again, entered_new, held_new, room_new, read_mark}
use Rattle.cargo_lock_graph.proofs.drawing.walk.Walk.enter.Goals as goal

pub put_frame-requires : goal.put_frame-requires
put_frame-requires c =
    let walk = c.args.self.now in
    let marks : List Bool = walk.visited.items in
    let held = c.requires.held in
    let mark : get_or marks c.args.node true ≡ false = subst (λ (k : ℕ). get_or marks k true ≡ false) c.index.ensures
    (read_mark marks c.index.result c.index-2.result.now false (omega (arith, held.long, c.index.ensures, c.requires.node)) c.index-2.ensures c.if-not-index.true) in
    omega (arith, room_new _ _ marks walk.stack.items c.args.node _ held mark, held.reserved, walk.stack.ok.0)

pub returns-then-not-index-clause-on : goal.returns-then-not-index-clause-on
returns-then-not-index-clause-on c =
    let walk = c.args.self.now in
    let graph = c.args.graph.now in
    let marks : List Bool = walk.visited.items in
    let held = c.requires.held in
    let mark : get_or marks c.args.node true ≡ false = subst (λ (k : ℕ). get_or marks k true ≡ false) c.index.ensures
    (read_mark marks c.index.result c.index-2.result.now false (omega (arith, held.long, c.index.ensures, c.requires.node)) c.index-2.ensures c.if-not-index.true) in
    let new = c.put_frame.new.stack in
    subst (λ (k : ℕ). IsHeld (length graph.packages) (length graph.edges) (set marks k true) new.items (vec_capacity new)) (sym c.index-then-not-index.ensures)
    (held_new _ _ marks walk.stack.items new.items c.newest_edge-newest_edge.result c.args.node (vec_capacity walk.stack) (vec_capacity new) c.put_frame.ensures.items c.put_frame.ensures.capacity held mark c.newest_edge-newest_edge.ensures.within)

pub returns-then-not-index-clause-entry : goal.returns-then-not-index-clause-entry
returns-then-not-index-clause-entry c depth deep =
    let walk = c.args.self.now in
    let edges = c.args.graph.now.edges in
    let marks : List Bool = walk.visited.items in
    let held = c.requires.held in
    let mark : get_or marks c.args.node true ≡ false = subst (λ (k : ℕ). get_or marks k true ≡ false) c.index.ensures
    (read_mark marks c.index.result c.index-2.result.now false (omega (arith, held.long, c.index.ensures, c.requires.node)) c.index-2.ensures c.if-not-index.true) in
    let e : Entry = record { node = c.args.node; depth = depth } in
    let new : List (Option ℕ) = c.put_frame.new.stack.items in
    entered_new walk.direction edges marks walk.stack.items new c.newest_edge-newest_edge.result c.args.node depth mark (omega (arith, deep, walk.stack.ok.0)) (ap (map (far_end walk.direction)) c.newest_edge-newest_edge.ensures.edges) c.put_frame.ensures.items
    ∙ ap (λ (k : ℕ). e ∷ entries_to_come walk.direction edges (set marks k true) new) (sym c.index-then-not-index.ensures)

pub returns-else-not-index-clause-entry : goal.returns-else-not-index-clause-entry
returns-else-not-index-clause-entry c depth deep =
    let walk = c.args.self.now in
    let marks : List Bool = walk.visited.items in
    let held = c.requires.held in
    let mark : get_or marks c.args.node true ≡ true = subst (λ (k : ℕ). get_or marks k true ≡ true) c.index.ensures
    (read_mark marks c.index.result c.index-2.result.now true (omega (arith, held.long, c.index.ensures, c.requires.node)) c.index-2.ensures c.if-not-index.false) in
    entered_again walk.direction c.args.graph.now.edges marks walk.stack.items c.args.node depth mark

pub push_level-requires : goal.push_level-requires
push_level-requires c =
    let walk = c.args.self.now in
    let marks : List Bool = walk.visited.items in
    let held = c.requires.held in
    let mark : get_or marks c.args.node true ≡ false = subst (λ (k : ℕ). get_or marks k true ≡ false) c.index.ensures
    (read_mark marks c.index.result c.index-2.result.now false (omega (arith, held.long, c.index.ensures, c.requires.node)) c.index-2.ensures c.if-not-index.true) in
    omega (arith, levels_room _ walk.stack.items walk.levels.items (vec_capacity walk.levels) c.requires.levels (room_new _ _ marks walk.stack.items c.args.node _ held mark), walk.levels.ok.0)

pub returns-then-not-index-clause-levels : goal.returns-then-not-index-clause-levels
returns-then-not-index-clause-levels c =
    let walk = c.args.self.now in
    levels_push _ walk.stack.items c.put_frame.new.stack.items c.newest_edge-newest_edge.result c.is_some.result walk.levels.items c.push_level.new.levels.items (vec_capacity walk.levels) _ c.put_frame.ensures.items c.is_some.ensures c.push_level.ensures.items c.push_level.ensures.capacity c.requires.levels

pub returns-then-not-index-clause-drawn : goal.returns-then-not-index-clause-drawn
returns-then-not-index-clause-drawn c =
    let walk = c.args.self.now in
    let marks : List Bool = walk.visited.items in
    let held = c.requires.held in
    let mark : get_or marks c.args.node true ≡ false = subst (λ (k : ℕ). get_or marks k true ≡ false) c.index.ensures
    (read_mark marks c.index.result c.index-2.result.now false (omega (arith, held.long, c.index.ensures, c.requires.node)) c.index-2.ensures c.if-not-index.true) in
    let new = c.put_frame.new.stack in
    drawn-new marks (set marks c.index-then-not-index.result true) c.args.node _ _ mark (ap (λ (k : ℕ). set marks k true) c.index-then-not-index.ensures)
    (omega (arith, new.ok.0, walk.stack.ok.0, ap length c.put_frame.ensures.items, length_push walk.stack.items c.newest_edge-newest_edge.result))

pub returns-else-not-index-clause-drawn : goal.returns-else-not-index-clause-drawn
returns-else-not-index-clause-drawn c =
    let walk = c.args.self.now in
    let marks : List Bool = walk.visited.items in
    let held = c.requires.held in
    let mark : get_or marks c.args.node true ≡ true = subst (λ (k : ℕ). get_or marks k true ≡ true) c.index.ensures
    (read_mark marks c.index.result c.index-2.result.now true (omega (arith, held.long, c.index.ensures, c.requires.node)) c.index-2.ensures c.if-not-index.false) in
    drawn-again marks marks c.args.node _ _ mark refl refl
