use Rattle.std.proofs.Common.{◌∙◌, sym}
use Rattle.lists.proofs.Tests.{any-map}
use Rattle.cargo_lock_licenses.specs.Policy.{exemption_of}
use Rattle.cargo_lock_licenses.specs.Report as spec
use Rattle.cargo_lock_licenses.specs.Subjects.{license_subject_of}
use Rattle.cargo_lock_licenses.proofs.report.is_exempted.Goals as goal

pub returns : goal.returns
returns c = c.is_one_exempted.ensures ∙ sym (any-map license_subject_of (spec.is_exempted (exemption_of c.args.exemption.now)) c.args.subjects.now)
