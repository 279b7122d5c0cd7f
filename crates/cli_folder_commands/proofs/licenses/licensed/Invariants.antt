use Rattle.std.proofs.Common.{◌≡◌, map, take}
use Rattle.cargo_lock_licenses.specs.Subjects.{license_subject_of}
use Rattle.cli_folder_commands.proofs.licenses.licensed.Given as goal

-- the packages so far
abbrev pub invariant-loop-package : goal.invariant-loop-package
invariant-loop-package l = map (λ s. s.content) (map license_subject_of l.subjects.items) ≡ take l.package-index l.packages
