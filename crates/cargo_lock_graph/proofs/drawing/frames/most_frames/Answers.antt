use Rattle.std.proofs.Common.{◌≡◌, ◌<◌, ◌∙◌, List, [], ◌∷◌, ap, arith, length, max, refl, sym, vec_len}
use Rattle.cargo_lock_graph.specs.declared.drawing.entry.Entry.{Entry}
use Rattle.cargo_lock_graph.specs.DrawingMade.{drawing}
use Rattle.cargo_lock_graph.specs.Edges.{far_ends}
use Rattle.cargo_lock_graph.specs.Frames.{frames_after, greatest_frames}
use Rattle.cargo_lock_graph.specs.WalkState.{to_come}
use Rattle.cargo_lock_graph.proofs.DrawingOfGraph.{drawing_of}
use Rattle.cargo_lock_graph.proofs.FrameCount.{drawn-marked, frames-start, frames-step, marked-start}
use Rattle.cargo_lock_graph.proofs.drawing.frames.most_frames.Goals as goal

pub entries-init : goal.entries-init
entries-init c =
    let graph = c.args.graph.now in
    let count = length graph.packages in
    let walk = c.in_ok-walk.walk in
    let drawn = c.in_ok-walk.ensures.drawn in
    record {
      on = c.in_ok-walk.ensures.on;
      levels = c.in_ok-walk.ensures.levels;
      held = omega (arith, c.frame_count-most.ensures);
      within = omega (arith, c.frame_count-most.ensures, c.in_ok-walk.ensures.on.room, walk.stack.ok.0);
      drawn = (
        c.args.start ∷ [],
        marked-start count c.args.start _ walk.visited.items c.requires drawn,
        frames-start count c.args.start _ c.frame_count-most.result _ _ walk.visited.items c.requires drawn c.frame_count-most.ensures (ap greatest_frames c.in_ok-walk.ensures.all),
      );
    }

pub entries-preserved : goal.entries-preserved
entries-preserved c =
    let graph = c.args.graph.now in
    let old = c.entries.walk in
    let new = c.next.new.self in
    let e : Entry = c.in-Some.field-0 in
    let (nodes, marked, all) = c.entries.invariant.drawn in
    let within = c.in-Some.ensures.fits.2 in
    let low : e.node < length old.visited.items = omega (arith, within, c.entries.invariant.on.long) in
    let deep = c.in-Some.ensures.deep in
    let grown : c.max-most.result ≡ max c.entries.most (vec_len new.stack) = c.max-most.ensures ∙ ap (max c.entries.most) c.frame_count.ensures in
    let told = ap (λ es. max c.entries.most (frames_after nodes es)) (sym c.in-Some.ensures.entry) ∙ all in
    record {
      on = c.in-Some.ensures.on;
      levels = c.in-Some.ensures.levels;
      held = omega (arith, c.frame_count.ensures, c.max-most.ensures);
      within = omega (arith, c.frame_count.ensures, c.max-most.ensures, c.entries.invariant.within, c.in-Some.ensures.on.room, new.stack.ok.0);
      drawn = (
        e.node ∷ nodes,
        drawn-marked old.visited.items new.visited.items nodes e.node e.depth (vec_len new.stack) low c.in-Some.ensures.drawn marked,
        frames-step old.visited.items new.visited.items nodes e.node e.depth (vec_len new.stack) c.entries.most c.max-most.result (frames_after (e.node ∷ nodes) (to_come graph new)) _ low marked c.in-Some.ensures.drawn (omega (arith, deep, c.entries.invariant.held)) grown told,
      );
    }

pub returns-clause-are : goal.returns-clause-are
returns-clause-are c =
    let graph = c.args.graph.now in
    let es : List Entry = drawing (far_ends c.args.direction graph.edges) (length graph.packages) c.args.start in
    let (nodes, marked, all) = c.entries.invariant.drawn in
    let none : to_come graph c.entries.walk ≡ [] = c.in_default.ensures.entry in
    let left : frames_after nodes (to_come graph c.entries.walk) ≡ 0 = ap (frames_after nodes) none in (
      es,
      drawing_of c.args.direction graph c.args.start es c.has_both_ends.ensures c.requires refl,
      omega (arith, all, left),
    )
