-- What was found of manifests in a folder, and which of it counts for a package.
use Rattle.std.specs.Prelude.{◌&&◌, [], ℕ, Bool, List, Option, bytes_eq, if◌then◌else◌, is_none}
use Rattle.std.specs.Prelude.{is_some, not, option_map, option_to_list, string_bytes, true}
use Rattle.std.specs.List.{flat_map, list_any}
use Rattle.semver.specs.Parse.{Parts}
use Rattle.semver.specs.Identifiers.{parts_of}
use Rattle.cargo_lock_parts.specs.Identity.{PackageData}
use Rattle.cargo_lock_references.specs.ResolutionSearch.{same_parts}
use Rattle.cargo_lock_licenses.specs.Subjects.{ManifestData, manifest_of}
use Rattle.cargo_lock_verify.specs.Hosts.{HostsData, hosts_data, hosts_of, is_in_reach}
use Rattle.cli_folders.specs.declared.found.Found.{Found}
use Rattle.cli_folders.specs.declared.sought.Reach.{Reach}
use Rattle.cli_folders.specs.declared.sought.Reach.TheVariants.{All, Near}
use Rattle.cli_folders.specs.declared.sought.Sought.{Sought}

-- what was found under a name and a version: what a manifest says, or none that counts; and the host
-- in the name of the index folder that it is in, if it is in one
pub record FoundManifestData : Type 0 where
  pub name : List ℕ
  pub version : Parts
  pub manifest : Option ManifestData
  pub host : Option (List ℕ)

-- the data of what the program found
abbrev pub found_of : Found → FoundManifestData
found_of f = record {
  name = string_bytes f.name;
  version = parts_of f.version;
  manifest = option_map manifest_of f.manifest;
  host = option_map string_bytes f.host;
}

-- a package whose manifests are sought, the hosts of its source, and which manifests count
pub record SoughtData : Type 0 where
  pub content : PackageData
  pub hosts : HostsData
  pub reach : Reach

-- the data of what the program seeks
abbrev pub sought_of : Sought → SoughtData
sought_of s =
    record { content = s.«package».now; hosts = hosts_data s.hosts; reach = s.reach }

-- the manifests of the package that are sought
abbrev pub sought_for : PackageData → Reach → SoughtData
sought_for p reach = record { content = p; hosts = hosts_of p.source; reach = reach }

-- it has the name and the version of the package
abbrev pub is_named_as : PackageData → FoundManifestData → Bool
is_named_as p f = bytes_eq p.name f.name && same_parts p.version f.version

-- what is in an index folder of this host is within reach
abbrev pub is_within : Reach → HostsData → Option (List ℕ) → Bool
is_within Near hosts host = is_in_reach [] hosts host
is_within All hosts host = true

-- the same of what is sought
abbrev pub is_in_place : SoughtData → Option (List ℕ) → Bool
is_in_place s host = is_within s.reach s.hosts host

-- it counts: it has the name and the version of the package, and is within reach
abbrev pub counts : SoughtData → FoundManifestData → Bool
counts s f = is_named_as s.content f && is_in_place s f.host

-- it counts, and has no manifest that does
abbrev pub is_without : SoughtData → FoundManifestData → Bool
is_without s f = counts s f && is_none f.manifest

-- its manifest, if it counts
abbrev pub manifests_if : SoughtData → FoundManifestData → List ManifestData
manifests_if s f = if counts s f then option_to_list f.manifest else []

-- the package has a source, and each that counts has a manifest
abbrev pub is_sought : SoughtData → List FoundManifestData → Bool
is_sought s found = is_some s.content.source && not (list_any (is_without s) found)

-- the manifests that count
abbrev pub manifests_by : SoughtData → List FoundManifestData → List ManifestData
manifests_by s found = if is_sought s found then flat_map (manifests_if s) found else []

-- which manifests of a package count: those that lie where Cargo has the package, if something of its
-- name and version lies there, and otherwise all
abbrev pub reach_of : PackageData → List FoundManifestData → Reach
reach_of p found = if list_any (counts (sought_for p Near)) found then Near else All

-- the manifests of a package
abbrev pub manifests_of : PackageData → List FoundManifestData → List ManifestData
manifests_of p found = manifests_by (sought_for p (reach_of p found)) found
