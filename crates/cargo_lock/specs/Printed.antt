-- The printed text of a lockfile, read again.
use Rattle.std.specs.Prelude.{◌≡◌, ◌↔◌, ℕ, List, None, map}
use Rattle.std.specs.List.{AllByRecursion}
use Rattle.cargo_lock_parts.specs.Identity.{identity_key, package_key}
use Rattle.cargo_lock_encoding.specs.Means.{TextMeans}
use Rattle.cargo_lock_references.specs.Metadata.{metadata_of}
use Rattle.cargo_lock_encoding.specs.Lockfiles.{LockfileData}
use Rattle.cargo_lock_encoding.specs.Survives.{Survives, HasSamePackages, in_format}
use Rattle.cargo_lock_references.specs.declared.version.ResolveVersion.{ResolveVersion}
use Rattle.cargo_lock_lines.specs.Layout.{join_lines}
use Rattle.cargo_lock_encoding.specs.Text.{lines_of}
use Rattle.cargo_lock_encoding.specs.PrintedTable.{HasAllPrinted}

-- the format, equal packages and patches, the written metadata, and no root
pub record IsPrintedBack (l x : LockfileData) : Type 0 where
  pub version : x.version ≡ l.version
  pub packages : map package_key x.packages ≡ map package_key l.packages
  pub patch : map identity_key x.patch ≡ map identity_key l.patch
  pub metadata : x.metadata ≡ metadata_of l.version l.metadata l.packages
  pub root : x.root ≡ None

-- If a lockfile survives its own format and no package has both a replacement and dependencies, its
-- printed text means a lockfile of that format with equal packages and patches, the written
-- metadata and no root.
abbrev pub PrintedBack : Type 0
PrintedBack = (l : LockfileData) → Survives l l.version → AllByRecursion HasAllPrinted l.packages
    → (x : LockfileData) × TextMeans (join_lines (lines_of l)) x × IsPrintedBack l x

-- the text of the lockfile in this format means the other one
abbrev pub IsTextStep : ResolveVersion → LockfileData → LockfileData → Type 0
IsTextStep format l x = TextMeans (join_lines (lines_of (in_format format l))) x

-- the text of the lockfile in this format means a lockfile of this format with equal packages, root
-- and patches
abbrev pub TextReadsBack : LockfileData → ResolveVersion → Type 0
TextReadsBack l format =
    (x : LockfileData) × IsTextStep format l x × (x.version ≡ format) × HasSamePackages x l

-- a text means at most one lockfile
abbrev pub TextMeansOne : Type 0
TextMeansOne = (text : List ℕ) (a b : LockfileData) → TextMeans text a → TextMeans text b → a ≡ b

-- The text printed in a format reads back exactly if the lockfile survives the format, has no root,
-- and no package has both a replacement and dependencies.
abbrev pub TextIsExact : Type 0
TextIsExact = (l : LockfileData) (format : ResolveVersion)
    → (Survives l format × (l.root ≡ None) × AllByRecursion HasAllPrinted l.packages)
    ↔ TextReadsBack l format
