use Rattle.std.proofs.Common.{◌∙◌, sym}
use Rattle.lists.proofs.Tests.{any-map}
use Rattle.cargo_lock_licenses.specs.Policy.{given_of}
use Rattle.cargo_lock_licenses.specs.Report as spec
use Rattle.cargo_lock_licenses.specs.Subjects.{license_subject_of}
use Rattle.cargo_lock_licenses.proofs.report.is_given.Goals as goal

pub returns : goal.returns
returns c = c.is_given_for_one.ensures ∙ sym (any-map license_subject_of (spec.is_given (given_of c.args.given.now)) c.args.subjects.now)
