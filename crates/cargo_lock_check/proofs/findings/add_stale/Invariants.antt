use Rattle.std.proofs.Common.{◌≡◌, ◌++◌, map, take}
use Rattle.cargo_lock_check.specs.Finding.{StaleChecksum}
use Rattle.cargo_lock_check.specs.Findings.{found_nowhere, placed_finding_of}
use Rattle.cargo_lock_check.proofs.findings.add_stale.Given as goal

abbrev pub invariant-loop-key : goal.invariant-loop-key
invariant-loop-key l = map placed_finding_of l.all.items ≡ map placed_finding_of l.fn.all.items ++ map (λ key. found_nowhere (StaleChecksum key)) (take l.key-index l.keys)
