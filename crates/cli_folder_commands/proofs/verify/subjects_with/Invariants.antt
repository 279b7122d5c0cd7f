use Rattle.std.proofs.Common.{◌≡◌, map, take}
use Rattle.cargo_lock_verify.specs.Archives.{archive_subject_of}
use Rattle.cli_folder_commands.proofs.verify.subjects_with.Given as goal

-- the packages so far
abbrev pub invariant-loop-package : goal.invariant-loop-package
invariant-loop-package g l = map (λ s. s.content) (map archive_subject_of l.subjects.items) ≡ take l.package-index l.packages
