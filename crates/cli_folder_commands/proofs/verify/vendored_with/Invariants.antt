use Rattle.std.proofs.Common.{◌≡◌, map, take}
use Rattle.cargo_lock_verify.specs.Vendored.{vendored_of}
use Rattle.cli_folder_commands.proofs.verify.vendored_with.Given as goal

-- the packages so far
abbrev pub invariant-loop-package : goal.invariant-loop-package
invariant-loop-package g l = map (λ v. v.content) (map vendored_of l.vendored.items) ≡ take l.package-index l.packages
