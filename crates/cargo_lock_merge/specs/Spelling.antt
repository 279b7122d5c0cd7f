-- Lockfiles in which crates.io is spelt as Cargo writes it.
-- Cargo compares packages by URLs in one form, so that it takes some other spellings for crates.io;
-- a merge compares them by their texts.
use Rattle.std.specs.Prelude.{ℕ, ◌&&◌, if◌then◌else◌, not, List, codes, map, option_map, unwrap_or}
use Rattle.cargo_lock_encoding.specs.Lockfiles.{LockfileData}
use Rattle.cargo_lock_order.specs.Canonical.{is_canonically_crates_io}
use Rattle.cargo_lock_parts.specs.Identity.{Identity, PackageData}
use Rattle.cargo_lock_parts.specs.Source.{Kind, Source, SparseRegistry}
use Rattle.cargo_lock_parts.specs.SourceReading.{source_of}
use Rattle.cargo_lock_parts.specs.SourceShown.{is_default_registry}

-- crates.io as Cargo writes it, among the sources of a kind
abbrev pub spelling : Kind → List ℕ
spelling SparseRegistry = codes "sparse+https://index.crates.io/"
spelling other = codes "registry+https://github.com/rust-lang/crates.io-index"

-- the source as Cargo writes it, if Cargo takes it for crates.io and writes that otherwise
abbrev pub source_as_written : Source → Source
source_as_written s = if is_canonically_crates_io s && not (is_default_registry s)
    then unwrap_or (source_of (spelling s.kind)) s else s

-- the identity with its source as Cargo writes it
abbrev pub identity_as_written : Identity → Identity
identity_as_written d = record d { source = option_map source_as_written d.source }

-- the package with each source in it as Cargo writes it
abbrev pub package_as_written : PackageData → PackageData
package_as_written p = record p {
  source = option_map source_as_written p.source;
  dependencies = map identity_as_written p.dependencies;
  replace = option_map identity_as_written p.replace;
}

-- the lockfile with each source in its packages as Cargo writes it
abbrev pub with_cargo_spelling : LockfileData → LockfileData
with_cargo_spelling l = record l { packages = map package_as_written l.packages }
