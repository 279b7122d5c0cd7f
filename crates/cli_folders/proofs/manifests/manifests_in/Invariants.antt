use Rattle.std.proofs.Common.{◌≡◌, map, take}
use Rattle.std.specs.List.{flat_map}
use Rattle.cargo_lock_licenses.specs.Subjects.{manifest_of}
use Rattle.cli_folders.specs.Manifests.{found_of, manifests_if, sought_of}
use Rattle.cli_folders.proofs.manifests.manifests_in.Given as goal

-- the manifests of what was found so far
abbrev pub invariant-loop-one : goal.invariant-loop-one
invariant-loop-one l = map manifest_of l.manifests.items ≡ flat_map (manifests_if (sought_of l.sought)) (map found_of (take l.one-index l.found))
