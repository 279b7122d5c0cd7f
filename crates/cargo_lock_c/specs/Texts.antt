-- What the statuses say of the text that a caller passes.
use Rattle.std.specs.Prelude.{◌≡◌, ◌≤◌, ◌↔◌, ℕ, List, Some, IsUtf8}
use Rattle.cargo_lock_references.specs.declared.version.ResolveVersion.{ResolveVersion}
use Rattle.cargo_lock_references.specs.Format.{number_of, format_numbered}
use Rattle.cargo_lock_encoding.specs.Lockfiles.{LockfileData}
use Rattle.cargo_lock_encoding.specs.Means.{TextMeans}
use Rattle.cargo_lock_encoding.specs.Survives.{Survives, in_format}
use Rattle.cargo_lock_lines.specs.Layout.{join_lines}
use Rattle.cargo_lock_encoding.specs.Text.{lines_of}

-- the text is not that of a lockfile
abbrev pub MeansNothing : List ℕ → Type 0
MeansNothing text = (l : LockfileData) → ¬ TextMeans text l

-- status 1 comes only if the text is not that of a lockfile, and status 2 only if it is not UTF-8
pub record RefusesText (text : List ℕ) (status : ℕ) : Type 0 where
  pub no_lockfile : status ≡ 1 → MeansNothing text
  pub no_text : status ≡ 2 → ¬ IsUtf8 text

-- the text is that of a lockfile in the format with this number
abbrev pub IsInFormat : List ℕ → ℕ → Type 0
IsInFormat text number = (l : LockfileData) × TextMeans text l × (number ≡ number_of l.version)

-- the text is that of a lockfile that survives the format with this number
abbrev pub SurvivesNumber : List ℕ → ℕ → Type 0
SurvivesNumber text number = (l : LockfileData) × (format : ResolveVersion) × TextMeans text l
    × (format_numbered number ≡ Some format) × Survives l format

-- the text is that of a lockfile that does not survive the format with this number
abbrev pub IsLostInNumber : List ℕ → ℕ → Type 0
IsLostInNumber text number = (l : LockfileData) × (format : ResolveVersion) × TextMeans text l
    × (format_numbered number ≡ Some format) × (¬ Survives l format)

-- What a status says of a text and the number of a format: 6 comes only if the lockfile of the text
-- does not survive the format, 4 exactly if no format has the number, and none above 6 comes.
pub record RefusesFormat (text : List ℕ) (number status : ℕ) : Type 0 where
  pub of_text : RefusesText text status
  pub lost : status ≡ 6 → IsLostInNumber text number
  pub no_format : (status ≡ 4) ↔ (¬ ((1 ≤ number) × (number ≤ 4)))
  pub bound : status ≤ 6

-- the text is that of a lockfile that survives the format with this number, and x is that lockfile,
-- set to the format
abbrev pub IsSurvivor : List ℕ → ℕ → LockfileData → Type 0
IsSurvivor text number x = (l : LockfileData) × (format : ResolveVersion) × TextMeans text l
    × (format_numbered number ≡ Some format) × Survives l format × (x ≡ in_format format l)

-- the text is that of a lockfile that survives the format with this number, and these bytes are its
-- text in that format
abbrev pub IsTranslation : List ℕ → ℕ → List ℕ → Type 0
IsTranslation text number bytes = (x : LockfileData) × IsSurvivor text number x
    × (bytes ≡ join_lines (lines_of x))
