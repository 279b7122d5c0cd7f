use Rattle.std.proofs.Common.{◌∙◌, ◌++◌, List, Option, ap, arith, sym, ℕ}
use Rattle.std.specs.List.{filter_map}
use Rattle.std.specs.Option.{option_to_list}
use Rattle.std.proofs.lemmas.List.{take_all}
use Rattle.cargo_lock_report.specs.Reported.{ReportedData}
use Rattle.cargo_lock_report.proofs.Filtered.{kept-more}
use Rattle.cargo_lock_report.proofs.report.reports.Goals as goal

pub loop-found-preserved : goal.loop-found-preserved
loop-found-preserved g c =
    let keep = λ (x : g.row.T.Denot). g.T.ToReport.reported_at (record { path = c.args.path.now; line = g.T.Lined.line_in c.args.lines.now x }) x in
    let x = c.found-item.result in
    c.in_ok-put_report.ensures
    ∙ ap (λ (n : Option ℕ). c.loop-found.reported.items ++ option_to_list (g.T.ToReport.reported_at (record { path = c.args.path.now; line = n }) x)) c.line-line.ensures
    ∙ ap (λ (rs : List ReportedData). rs ++ option_to_list (keep x)) c.loop-found.invariant
    ∙ sym (kept-more keep c.args.all.now c.loop-found.found-index x c.loop-found-test.true (sym c.found-item.is))

pub returns : goal.returns
returns g c =
    let keep = λ (x : g.row.T.Denot). g.T.ToReport.reported_at (record { path = c.args.path.now; line = g.T.Lined.line_in c.args.lines.now x }) x in
    c.loop-found.invariant ∙ ap (filter_map keep) (take_all c.loop-found.found-index c.args.all.now (omega arith))
