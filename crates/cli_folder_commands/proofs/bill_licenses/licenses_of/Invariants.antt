use Rattle.std.proofs.Common.{map, option_map, take}
use Rattle.std.specs.List.{AllZip}
use Rattle.cargo_lock_bom.specs.Options.{license_of}
use Rattle.cargo_lock_licenses.specs.Subjects.{license_subject_of}
use Rattle.cli_folder_commands.specs.BillLicenses.{IsLicense}
use Rattle.cli_folder_commands.proofs.bill_licenses.licenses_of.Given as goal

-- the licence expressions of the subjects so far
abbrev pub invariant-loop-subject : goal.invariant-loop-subject
invariant-loop-subject l = AllZip IsLicense (map license_subject_of (take l.subject-index l.subjects)) (map (option_map license_of) l.licenses.items)
