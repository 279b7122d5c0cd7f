use Rattle.std.proofs.Common.{◌≡◌, map, take}
use Rattle.cargo_lock_verify.specs.Vendored.{folder_finding_of, folder_findings, vendored_of}
use Rattle.cargo_lock_verify.proofs.vendored.vendored_findings.Given as goal

-- what is wrong with the folders of the packages so far
abbrev pub invariant-loop-one : goal.invariant-loop-one
invariant-loop-one l = map folder_finding_of l.found.items ≡ folder_findings (map vendored_of (take l.one-index l.vendored))
