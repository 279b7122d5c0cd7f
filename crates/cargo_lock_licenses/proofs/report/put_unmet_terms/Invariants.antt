use Rattle.std.proofs.Common.{◌≡◌, ◌++◌, map, string_bytes, take}
use Rattle.std.specs.List.{flat_map}
use Rattle.cargo_lock_licenses.specs.Report.{unmet_of, unmet_term}
use Rattle.cargo_lock_licenses.proofs.report.put_unmet_terms.Given as goal

-- what was added so far
abbrev pub invariant-loop-term : goal.invariant-loop-term
invariant-loop-term l = map unmet_of l.unmet.items ≡ map unmet_of l.initial.unmet.items ++ flat_map (unmet_term (map string_bytes l.had)) (map string_bytes (take l.term-index l.terms))
