-- The checksums of packages as Cargo reads them. In V1 they are in the metadata. A lockfile that
-- was read has, for each package, the checksum at the first key of its name and version, whatever
-- source the key names (`checksum_in`), and so gives a package of one registry the checksum of its
-- namesake from another one. Cargo takes the key of the package's own source. These definitions
-- describe that, for tools that compare checksums.
-- The rule is measured on the lockfiles of V1 in `tests/cargo`, which Cargo 1.95.0 wrote; Cargo's
-- own is in its `src/cargo/core/resolver/encode.rs`.
use Rattle.std.specs.Prelude.{ℕ, if◌then◌else◌, List, bytes_eq, codes, map, Option, None, Some}
use Rattle.std.specs.FinMap.{get}
use Rattle.std.specs.Option.{option_and_then, option_or}
use Rattle.cargo_lock_parts.specs.Checksum.{digest_in}
use Rattle.cargo_lock_parts.specs.Identity.{PackageData}
use Rattle.cargo_lock_parts.specs.Source.{Branch, DefaultBranch, Git, GitReference, Source, git_reference}
use Rattle.cargo_lock_parts.specs.SourceReading.{plain_source}
use Rattle.cargo_lock_references.specs.declared.version.ResolveVersion.{ResolveVersion}
use Rattle.cargo_lock_references.specs.declared.version.ResolveVersion.TheVariants.{V1, V2, V3, V4}
use Rattle.cargo_lock_references.specs.Metadata.{checksum_key}
use Rattle.cargo_lock_references.specs.Records.{Texts}
use Rattle.cargo_lock_encoding.specs.Lockfiles.{LockfileData}

-- a source without its commit
abbrev pub unpinned : Source → Source
unpinned source = record source { precise = None }

-- the key of the checksum of a package from this source
abbrev pub key_from : PackageData → Source → List ℕ
key_from p source = checksum_key
    (record { name = p.name; version = p.version; source = Some (unpinned source) })

-- the default branch of a repository, if this reference is its branch `master`
abbrev pub default_branch : Source → Option GitReference → Option Source
default_branch source (Some (Branch name)) = if bytes_eq name (codes "master")
    then Some (plain_source (Git DefaultBranch) None source.url) else None
default_branch source other = None

-- the value at the key of a package from another source, if there is one
abbrev pub value_from_other : Texts → PackageData → Option Source → Option (List ℕ)
value_from_other m p other = option_and_then (λ source. get m (key_from p source)) other

-- the value at the key of a package from this source, or else, for the branch `master`, at the key
-- of the default branch: in V1 Cargo writes that key for both
abbrev pub value_from : Texts → PackageData → Source → Option (List ℕ)
value_from m p source = option_or (get m (key_from p source))
    (value_from_other m p (default_branch source (git_reference source.kind)))

-- the digest that the value reads as, if it does; a package without a source has none
abbrev pub digest_of_key : Texts → PackageData → Option (List ℕ)
digest_of_key m p = option_and_then digest_in (option_and_then (value_from m p) p.source)

-- the checksum of a package: in V1 by its key, and from V2 on its own
abbrev pub cargo_checksum : ResolveVersion → Texts → PackageData → Option (List ℕ)
cargo_checksum V1 m p = digest_of_key m p
cargo_checksum V2 m p = p.checksum
cargo_checksum V3 m p = p.checksum
cargo_checksum V4 m p = p.checksum

-- the package with this checksum
abbrev pub with_checksum : Option (List ℕ) → PackageData → PackageData
with_checksum checksum p = record p { checksum = checksum }

-- each package with its checksum
abbrev pub with_cargo_checksums : ResolveVersion → Texts → List PackageData → List PackageData
with_cargo_checksums version m packages =
    map (λ p. with_checksum (cargo_checksum version m p) p) packages

-- the lockfile with these packages
abbrev pub with_cargo_checksums_in : LockfileData → LockfileData
with_cargo_checksums_in l = record l {
  packages = with_cargo_checksums l.version l.metadata l.packages;
}
