use Rattle.std.proofs.Common.{map, take}
use Rattle.cargo_lock_licenses.specs.Judged.{judged_of}
use Rattle.cargo_lock_licenses.specs.Policy.{policy_of}
use Rattle.cargo_lock_licenses.specs.Report.{AreJudged}
use Rattle.cargo_lock_licenses.specs.Subjects.{license_subject_of}
use Rattle.cargo_lock_licenses.proofs.report.all_judged.Given as goal

-- what is said of the subjects so far
abbrev pub invariant-loop-subject : goal.invariant-loop-subject
invariant-loop-subject l = AreJudged (policy_of l.policy) (map license_subject_of (take l.subject-index l.subjects)) (map judged_of l.judged.items)
