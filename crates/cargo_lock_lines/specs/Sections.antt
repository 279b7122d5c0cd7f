-- The names of a lockfile's sections, and of the keys in them.
-- They are those of `EncodableResolve` and `EncodableDependency` in Cargo's
-- `src/cargo/core/resolver/encode.rs`.
use Rattle.std.specs.Prelude.{ℕ, List, codes}

-- ---- sections

-- the packages
abbrev pub package_section : List ℕ
package_section = codes "package"

-- the patches, of which a lockfile has only those of the next name
abbrev pub patch_section : List ℕ
patch_section = codes "patch"

-- the patches that no package uses
abbrev pub unused_section : List ℕ
unused_section = codes "unused"

-- the metadata
abbrev pub metadata_section : List ℕ
metadata_section = codes "metadata"

-- ---- keys

-- the number of the format; the version of a package or of a patch
abbrev pub at_version : List ℕ
at_version = codes "version"

-- the name of a package or of a patch
abbrev pub at_name : List ℕ
at_name = codes "name"

-- where a package or a patch comes from
abbrev pub at_source : List ℕ
at_source = codes "source"

-- the checksum of a package
abbrev pub at_checksum : List ℕ
at_checksum = codes "checksum"

-- what a package depends on
abbrev pub at_dependencies : List ℕ
at_dependencies = codes "dependencies"

-- what a package is replaced by
abbrev pub at_replace : List ℕ
at_replace = codes "replace"
