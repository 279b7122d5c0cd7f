-- Translation of a lockfile through a list of formats: for each format in order the lockfile is
-- written as a table in that format, and the table is read; or it is printed as a text in that
-- format, and the text is read.
use Rattle.std.specs.Prelude.{◌≡◌, ◌⊎◌, ◌↔◌, List, [], ◌∷◌, Option, Some}
use Rattle.cargo_lock_parts.specs.Identity.{PackageData}
use Rattle.cargo_lock_references.specs.declared.version.ResolveVersion.{ResolveVersion}
use Rattle.cargo_lock_encoding.specs.Means.{Means}
use Rattle.cargo_lock_encoding.specs.Meaning.{meaning}
use Rattle.cargo_lock_references.specs.Metadata.{metadata_of}
use Rattle.cargo_lock_parts.specs.Optional.{◌>>=◌}
use Rattle.cargo_lock_encoding.specs.Lockfiles.{LockfileData}
use Rattle.cargo_lock_references.specs.Records.{Texts}
use Rattle.cargo_lock_encoding.specs.Survives.{HasSamePackages, Survives, in_format}
use Rattle.cargo_lock_encoding.specs.Table.{table_of}
use Rattle.cargo_lock.specs.Printed.{IsTextStep, TextReadsBack}

-- ---- the chain

-- the table of the lockfile in this format means the other one
abbrev pub IsStep : ResolveVersion → LockfileData → LockfileData → Type 0
IsStep format l x = Means (table_of (in_format format l)) x

-- steps, one after another, lead to x; without formats x is the lockfile itself
abbrev pub LeadsBy : (ResolveVersion → LockfileData → LockfileData → Type 0)
    → List ResolveVersion → LockfileData → LockfileData → Type 0
LeadsBy step [] l x = x ≡ l
LeadsBy step (format ∷ formats) l x = (y : LockfileData) × step format l y
    × LeadsBy step formats y x

-- the steps by tables lead to x
abbrev pub LeadsTo : List ResolveVersion → LockfileData → LockfileData → Type 0
LeadsTo = LeadsBy IsStep

-- the table of some step means no lockfile
abbrev pub IsStuck : List ResolveVersion → LockfileData → Type 0
IsStuck [] l = ⊥
IsStuck (format ∷ formats) l =
    ((y : LockfileData) → ¬ IsStep format l y)
    ⊎ ((y : LockfileData) × IsStep format l y × IsStuck formats y)

-- ---- what is kept

-- the lockfile before each step survives the format of the step
abbrev pub SurvivesEach : List ResolveVersion → LockfileData → Type 0
SurvivesEach [] l = Unit {0}
SurvivesEach (format ∷ formats) l =
    Survives l format × ((y : LockfileData) → IsStep format l y → SurvivesEach formats y)

-- the metadata that is written in each format in turn
abbrev pub metadata_through : List ResolveVersion → Texts → List PackageData → Texts
metadata_through [] m packages = m
metadata_through (format ∷ formats) m packages = metadata_through formats
    (metadata_of format m packages) packages

-- the last of the formats, or this one if there is none
abbrev pub last_format : ResolveVersion → List ResolveVersion → ResolveVersion
last_format format [] = format
last_format format (next ∷ formats) = last_format next formats

-- equal packages, root and patches, the last of the formats, and the metadata that is written in
-- each format in turn
pub record KeepsThrough (formats : List ResolveVersion) (l x : LockfileData) : Type 0 where
  pub version : x.version ≡ last_format l.version formats
  pub same : HasSamePackages x l
  pub metadata : x.metadata ≡ metadata_through formats l.metadata l.packages

-- ---- by texts

-- the text that each step prints reads back
abbrev pub ReadsBackEach : List ResolveVersion → LockfileData → Type 0
ReadsBackEach [] l = Unit {0}
ReadsBackEach (format ∷ formats) l =
    TextReadsBack l format × ((y : LockfileData) → IsTextStep format l y → ReadsBackEach formats y)

-- ---- computed

-- the lockfile to which the chain leads
abbrev pub translate_in_turn : List ResolveVersion → LockfileData → Option LockfileData
translate_in_turn [] l = Some l
translate_in_turn (format ∷ formats) l = meaning
    (table_of (in_format format l)) >>= translate_in_turn formats

-- ---- laws

-- if a lockfile survives its own format, what it reads back as is written again unchanged
abbrev pub WrittenAgain : Type 0
WrittenAgain = (l x : LockfileData) → Survives l l.version → Means (table_of l) x → table_of x
    ≡ table_of l

-- If the text of each step reads back, the chain by texts is the chain by tables.
abbrev pub SameByTexts : Type 0
SameByTexts = (formats : List ResolveVersion) (l x : LockfileData) → ReadsBackEach formats l
    → LeadsBy IsTextStep formats l x ↔ LeadsTo formats l x
