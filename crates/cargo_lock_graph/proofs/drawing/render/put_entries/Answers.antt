use Rattle.std.proofs.Common.{◌≡◌, ◌∙◌, ℕ, List, ◌++◌, refl, sym, ap, append_assoc, rules}
use Rattle.cargo_lock_graph.specs.declared.drawing.entry.Entry.{Entry}
use Rattle.cargo_lock_graph.specs.DrawingByLater.{drawn_by_later, line_by_later}
use Rattle.cargo_lock_graph.specs.DrawingText.{standard_symbols}
use Rattle.cargo_lock_graph.specs.Labels.{label_at}
use Rattle.cargo_lock_graph.specs.WalkState.{to_come}
use Rattle.cargo_lock_parts.proofs.Appended.{appends_more}
use Rattle.cargo_lock_graph.proofs.SinkWrites.{fault_of, sound_more, written_of}
use Rattle.cargo_lock_graph.proofs.drawing.render.put_entries.Goals as goal

pub loop-entry-init : goal.loop-entry-init
loop-entry-init g c = record {
  on = c.requires.on;
  levels = c.requires.levels;
  sound = (refl, refl);
  told = search rules;
}

pub loop-entry-preserved : goal.loop-entry-preserved
loop-entry-preserved g c =
    let graph = c.args.graph.now in
    let label : ℕ → List ℕ = label_at c.args.look.now.exact graph.packages in
    let later : List Entry = to_come graph c.next.new.self in
    let told = c.loop-entry.invariant.told in
    let this : List ℕ = line_by_later standard_symbols label c.in-Some.entry later in
    let text : told.0 ++ (this ++ drawn_by_later standard_symbols label later) ≡ told.0 ++ drawn_by_later standard_symbols label (to_come graph c.loop-entry.walk) = ap (λ (x : List Entry). told.0 ++ drawn_by_later standard_symbols label x) (sym c.in-Some.ensures.entry) in
    record {
      on = c.in-Some.ensures.on;
      levels = c.in-Some.ensures.levels;
      sound = sound_more (g.T.Target.state c.args.out.now) (g.T.Target.state c.loop-entry.out) (g.T.Target.state c.put_line.new.out) c.loop-entry.invariant.sound c.in_ok-put_line.ensures.1;
      told = (told.0 ++ this, appends_more _ (g.T.Target.state c.loop-entry.out).bytes _ told.0 this told.1 c.in_ok-put_line.ensures.0, append_assoc told.0 this (drawn_by_later standard_symbols label later) ∙ text ∙ told.2);
    }

pub returns-in_err-put_line : goal.returns-in_err-put_line
returns-in_err-put_line g c =
    let graph = c.args.graph.now in
    let label : ℕ → List ℕ = label_at c.args.look.now.exact graph.packages in
    let later : List Entry = to_come graph c.next.new.self in
    let told = c.loop-entry.invariant.told in
    let drawn : List Entry → List ℕ = drawn_by_later standard_symbols label in
    let waiting : List Entry = to_come graph c.loop-entry.walk in
    let failed = fault_of c.from_residual.result (g.T.Target.state c.loop-entry.out) (g.T.Target.state c.put_line.new.out) (drawn waiting) (line_by_later standard_symbols label c.in-Some.entry later) (drawn later) c.from_residual.ensures.0
    (ap (λ (es : List Entry). drawn es) c.in-Some.ensures.entry) c.in_err-put_line.ensures in
    written_of c.from_residual.result (g.T.Target.state c.args.out.now) _ _ (drawn (to_come graph c.args.walk.now)) told.0 (drawn waiting) (sym told.2) told.1 c.loop-entry.invariant.sound failed
