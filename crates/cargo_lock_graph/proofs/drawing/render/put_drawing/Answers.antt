use Rattle.std.proofs.Common.{ℕ, List, ◌++◌, sym, ap}
use Rattle.cargo_lock_graph.specs.declared.drawing.entry.Entry.{Entry}
use Rattle.cargo_lock_graph.specs.DrawingByLater.{drawn_by_later, line_by_later}
use Rattle.cargo_lock_graph.specs.DrawingText.{standard_symbols}
use Rattle.cargo_lock_graph.specs.Labels.{label_at}
use Rattle.cargo_lock_graph.specs.WalkState.{to_come}
use Rattle.cargo_lock_graph.proofs.SinkWrites.{fault_of, written_of}
use Rattle.cargo_lock_graph.proofs.drawing.render.put_drawing.Goals as goal

pub returns-in_err-put_line : goal.returns-in_err-put_line
returns-in_err-put_line g c =
    let graph = c.args.graph.now in
    let label : ℕ → List ℕ = label_at c.args.look.now.exact graph.packages in
    let later : List Entry = to_come graph c.args.walk.now in
    let line : ℕ → List ℕ = λ n. line_by_later standard_symbols label (record { node = n; depth = 0 }) later in
    let rest : List ℕ = drawn_by_later standard_symbols label later in
    fault_of c.from_residual.result _ _ (line c.args.start ++ rest) (line c.index.result) rest c.from_residual.ensures.0
    (ap (λ (n : ℕ). line n ++ rest) (sym c.index.ensures)) c.in_err-put_line.ensures

pub returns : goal.returns
returns g c =
    let graph = c.args.graph.now in
    let label : ℕ → List ℕ = label_at c.args.look.now.exact graph.packages in
    let later : List Entry = to_come graph c.args.walk.now in
    let line : ℕ → List ℕ = λ n. line_by_later standard_symbols label (record { node = n; depth = 0 }) later in
    let rest : List ℕ = drawn_by_later standard_symbols label later in
    written_of c.put_entries.result _ _ _ (line c.args.start ++ rest) (line c.index.result) rest
    (ap (λ (n : ℕ). line n ++ rest) (sym c.index.ensures)) c.in_ok-put_line.ensures.0 c.in_ok-put_line.ensures.1 c.put_entries.ensures
