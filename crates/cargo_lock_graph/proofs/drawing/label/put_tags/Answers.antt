use Rattle.std.proofs.Common.{ℕ, List, ◌++◌, sym, ap}
use Rattle.semver.specs.Identifiers.{marked, pre_text, build_text}
use Rattle.cargo_lock_graph.proofs.SinkWrites.{fault_of, written_of}
use Rattle.cargo_lock_graph.proofs.drawing.label.put_tags.Goals as goal

pub returns-in_err-put_marked : goal.returns-in_err-put_marked
returns-in_err-put_marked g c =
    let v = c.args.version.now in
    let build : List ℕ = marked 43 (build_text v.build) in
    fault_of c.from_residual.result _ _ (marked 45 (pre_text v.pre) ++ build) (marked 45 c.as_str.result.now) build c.from_residual.ensures.0
    (ap (λ (t : List ℕ). marked 45 t ++ build) (sym c.as_str.ensures)) c.in_err-put_marked.ensures

pub returns : goal.returns
returns g c =
    let v = c.args.version.now in
    let build : List ℕ = marked 43 (build_text v.build) in
    written_of c.put_marked-2.result _ _ _ (marked 45 (pre_text v.pre) ++ build) (marked 45 c.as_str.result.now) build
    (ap (λ (t : List ℕ). marked 45 t ++ build) (sym c.as_str.ensures)) c.in_ok-put_marked.ensures.0 c.in_ok-put_marked.ensures.1 (rw (c.as_str-2.ensures) at c.put_marked-2.ensures)
