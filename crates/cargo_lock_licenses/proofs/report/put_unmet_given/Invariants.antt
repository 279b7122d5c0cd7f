use Rattle.std.proofs.Common.{◌≡◌, ◌++◌, map, take}
use Rattle.std.specs.List.{flat_map}
use Rattle.cargo_lock_licenses.specs.Policy.{given_of}
use Rattle.cargo_lock_licenses.specs.Report.{unmet_given, unmet_of}
use Rattle.cargo_lock_licenses.specs.Subjects.{license_subject_of}
use Rattle.cargo_lock_licenses.proofs.report.put_unmet_given.Given as goal

-- what was added so far
abbrev pub invariant-loop-given : goal.invariant-loop-given
invariant-loop-given l = map unmet_of l.unmet.items ≡ map unmet_of l.initial.unmet.items ++ flat_map (unmet_given (map license_subject_of l.subjects)) (map given_of (take l.given-index l.all))
