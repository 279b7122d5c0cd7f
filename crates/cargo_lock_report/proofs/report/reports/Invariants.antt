use Rattle.std.proofs.Common.{◌≡◌, take}
use Rattle.std.specs.List.{filter_map}
use Rattle.cargo_lock_report.proofs.report.reports.Given as goal

-- what is reported so far
abbrev pub invariant-loop-found : goal.invariant-loop-found
invariant-loop-found g l = l.reported.items ≡ filter_map
    (λ x. g.T.ToReport.reported_at (record { path = l.path; line = g.T.Lined.line_in l.lines x }) x) (take l.found-index l.all)
