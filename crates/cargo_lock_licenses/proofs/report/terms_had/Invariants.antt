use Rattle.std.proofs.Common.{◌≡◌, map, string_bytes, take}
use Rattle.cargo_lock_licenses.specs.Judged.{judged_of}
use Rattle.cargo_lock_licenses.specs.Report.{terms_had}
use Rattle.cargo_lock_licenses.proofs.report.terms_had.Given as goal

-- what was added so far
abbrev pub invariant-loop-one : goal.invariant-loop-one
invariant-loop-one l = map string_bytes l.had.items ≡ terms_had (map judged_of (take l.one-index l.judged))
