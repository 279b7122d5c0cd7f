use Rattle.std.proofs.Common.{◌≡◌, ◌++◌, map, take}
use Rattle.std.specs.List.{filter_map}
use Rattle.cargo_lock_check.specs.Findings.{finding_by, flawed_at, placed_finding_of}
use Rattle.cargo_lock_check.proofs.findings.add_flawed.Given as goal

abbrev pub invariant-loop-place : goal.invariant-loop-place
invariant-loop-place l = map placed_finding_of l.all.items
    ≡ map placed_finding_of l.fn.all.items ++ filter_map (flawed_at (finding_by l.flaw) l.packages) (take l.place-index l.places)
