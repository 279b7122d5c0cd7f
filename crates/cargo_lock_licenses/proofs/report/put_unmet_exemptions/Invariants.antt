use Rattle.std.proofs.Common.{◌≡◌, ◌++◌, map, take}
use Rattle.std.specs.List.{flat_map}
use Rattle.cargo_lock_licenses.specs.Policy.{exemption_of}
use Rattle.cargo_lock_licenses.specs.Report.{unmet_exemption, unmet_of}
use Rattle.cargo_lock_licenses.specs.Subjects.{license_subject_of}
use Rattle.cargo_lock_licenses.proofs.report.put_unmet_exemptions.Given as goal

-- what was added so far
abbrev pub invariant-loop-exemption : goal.invariant-loop-exemption
invariant-loop-exemption l = map unmet_of l.unmet.items ≡ map unmet_of l.initial.unmet.items ++ flat_map (unmet_exemption (map license_subject_of l.subjects)) (map exemption_of (take l.exemption-index l.all))
