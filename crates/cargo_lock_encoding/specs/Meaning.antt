-- `Means` as it is computed. The lemmas that the two agree are in `proofs/`.
use Rattle.std.specs.Prelude.{ℕ, List, [], Option, Some, option_map, map}
use Rattle.toml.specs.Data.{Members}
use Rattle.cargo_lock_parts.specs.Identity.{Identity, PackageData}
use Rattle.cargo_lock_references.specs.declared.version.ResolveVersion.{ResolveVersion}
use Rattle.cargo_lock_encoding.specs.Lockfiles.{format_of}
use Rattle.cargo_lock_encoding.specs.Means.{reading_list, encoded_checksum}
use Rattle.cargo_lock_parts.specs.Optional.{◌>>=◌, map_all, map_some}
use Rattle.cargo_lock_references.specs.Records.{EncodedPackage, Texts, unmarked_source}
use Rattle.cargo_lock_references.specs.Records.{encoded_identity}
use Rattle.cargo_lock_encoding.specs.Lockfiles.{EncodedData, LockfileData}
use Rattle.cargo_lock_references.specs.ResolutionSearch.{resolution_of}
use Rattle.cargo_lock_encoding.specs.TableReading.{encoded_at}

-- the package of an encoded package with this checksum
abbrev pub package_of : List Identity → Option (List ℕ) → EncodedPackage → Option PackageData
package_of list checksum e = do
  dependencies ← map_all (λ f. resolution_of f list) e.dependencies
  replace ← map_some (λ f. resolution_of f []) e.replace
  Some (record {
    name = e.name;
    version = e.version;
    source = unmarked_source e.source;
    checksum = checksum;
    dependencies = dependencies;
    replace = replace;
  })

-- the package of an encoded package of the list
abbrev pub listed_package : ResolveVersion → List Identity → Texts → EncodedPackage
    → Option PackageData
listed_package v list m e = package_of list (encoded_checksum v m e) e

-- the package of the root
abbrev pub root_package : EncodedPackage → Option PackageData
root_package e = package_of [] e.checksum e

-- the packages of the encoded packages
abbrev pub all_packages : ResolveVersion → Texts → List EncodedPackage → Option (List PackageData)
all_packages v m es = map_all (listed_package v (reading_list v (map encoded_identity es)) m) es

-- what is determined from values
pub record ResolvedData : Type 0 where
  pub version : ResolveVersion
  pub packages : List PackageData
  pub root : Option PackageData

-- the format, the packages and the root
abbrev pub resolved_values : EncodedData → Option ResolvedData
resolved_values e = do
  version ← format_of e
  packages ← all_packages version e.metadata e.packages
  root ← map_some root_package e.root
  Some (record { version = version; packages = packages; root = root })

-- the lockfile of what the values determine, with their metadata and their patches
abbrev pub completed_lockfile : EncodedData → ResolvedData → LockfileData
completed_lockfile e r =
    record {
      version = r.version;
      packages = r.packages;
      root = r.root;
      metadata = e.metadata;
      patch
          = e.patch;
    }

-- the lockfile of values, if there is one
unfoldable pub lockfile_of : EncodedData → Option LockfileData
lockfile_of e = option_map (completed_lockfile e) (resolved_values e)

-- the lockfile that a table means, if there is one
abbrev pub meaning : Members → Option LockfileData
meaning t = encoded_at t >>= lockfile_of
