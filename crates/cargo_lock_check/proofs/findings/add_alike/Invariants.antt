use Rattle.std.proofs.Common.{◌≡◌, ◌++◌, map, take}
use Rattle.std.specs.List.{filter_map}
use Rattle.cargo_lock_check.specs.Findings.{alike_at, placed_finding_of}
use Rattle.cargo_lock_check.proofs.findings.add_alike.Given as goal

abbrev pub invariant-loop-earlier : goal.invariant-loop-earlier
invariant-loop-earlier l = map placed_finding_of l.all.items ≡ map placed_finding_of l.fn.all.items ++ filter_map (alike_at l.packages) (take l.earlier-index l.pairs)
