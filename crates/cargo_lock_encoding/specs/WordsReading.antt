-- What the words of a lockfile read as. No public contract cites these definitions.
use Rattle.std.specs.Prelude.{Option, Some, None, option_map}
use Rattle.std.specs.FinMap.{empty}
use Rattle.cargo_lock_lines.specs.TableOfWords.{LinedIdentity, LinedLockfile, LinedPackage}
use Rattle.cargo_lock_parts.specs.Checksum.{digest_in}
use Rattle.cargo_lock_parts.specs.Identity.{Identity}
use Rattle.cargo_lock_parts.specs.SourceReading.{source_of}
use Rattle.cargo_lock_parts.specs.Optional.{◌>>=◌, map_all, map_some}
use Rattle.cargo_lock_references.specs.Records.{EncodedPackage}
use Rattle.cargo_lock_references.specs.Reference.{mark_plain, reference_of, version_of}
use Rattle.cargo_lock_encoding.specs.Lockfiles.{EncodedData}
use Rattle.cargo_lock_encoding.specs.TableReading.{put_all}

-- the identity that its words are
unfoldable pub identity_from : LinedIdentity → Option Identity
identity_from i = do
  version ← version_of i.version
  source ← map_some source_of i.source
  Some (record { name = i.name; version = version; source = source })

-- the package that its words are
unfoldable pub package_from : LinedPackage → Option EncodedPackage
package_from p = do
  identity ← identity_from p.identity
  checksum ← map_some digest_in p.checksum
  references ← map_all reference_of p.dependencies
  replace ← map_some reference_of p.replace
  Some (record {
    name = identity.name;
    version = identity.version;
    source = option_map mark_plain identity.source;
    checksum = checksum;
    dependencies = references;
    replace = replace;
  })

-- the values that the words of a lockfile are
unfoldable pub values_from : LinedLockfile → Option EncodedData
values_from l = do
  packages ← map_all package_from l.packages
  patch ← map_all identity_from l.patches
  Some (record {
    version = l.number;
    packages = packages;
    root = None;
    metadata = put_all empty l.metadata;
    patch = patch;
  })
