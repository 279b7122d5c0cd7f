use Rattle.std.proofs.Common.{◌≡◌, ◌++◌, map, take}
use Rattle.std.specs.List.{filter_map}
use Rattle.cargo_lock_check.specs.Findings.{placed_finding_of, source_finding_at, source_finding_by}
use Rattle.cargo_lock_check.proofs.findings.add_sources.Given as goal

abbrev pub invariant-loop-place : goal.invariant-loop-place
invariant-loop-place l = map placed_finding_of l.all.items
    ≡ map placed_finding_of l.fn.all.items ++ filter_map (source_finding_at (source_finding_by l.flaw) l.packages) (take l.place-index l.places)
