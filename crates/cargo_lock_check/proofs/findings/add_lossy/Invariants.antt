use Rattle.std.proofs.Common.{◌≡◌, ◌++◌, map, string_bytes, take}
use Rattle.cargo_lock_check.specs.Finding.{LossySource}
use Rattle.cargo_lock_check.specs.Findings.{found_nowhere, placed_finding_of}
use Rattle.cargo_lock_check.proofs.findings.add_lossy.Given as goal

abbrev pub invariant-loop-source : goal.invariant-loop-source
invariant-loop-source l =
    map placed_finding_of l.all.items ≡ map placed_finding_of l.fn.all.items ++ map (λ source. found_nowhere (LossySource l.version source)) (map string_bytes (take l.source-index l.sources))
