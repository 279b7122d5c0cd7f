-- What `translate` leaves in the writer for standard output.
use Rattle.std.specs.Prelude.{◌≡◌, ℕ, List, [], ◌∷◌, ◌++◌, Option, Some, codes}
use Rattle.std.specs.Prelude.{unwrap_or}
use Rattle.clap.specs.Matches.{first_value, one_text}
use Rattle.clap.specs.declared.parser.matches.Found.{Found}
use Rattle.cargo_lock_references.specs.declared.version.ResolveVersion.{ResolveVersion}
use Rattle.cargo_lock_parts.specs.Ascii.{newline}
use Rattle.cargo_lock_references.specs.Format.{IsFormatText}
use Rattle.cargo_lock_encoding.specs.Lockfiles.{LockfileData}
use Rattle.cargo_lock_lines.specs.Layout.{join_lines}
use Rattle.cargo_lock_encoding.specs.Text.{lines_of}
use Rattle.cargo_lock.specs.Loads.{IsMeant}
use Rattle.cargo_lock.specs.Printed.{TextReadsBack}
use Rattle.cargo_lock_encoding.specs.Survives.{Survives, in_format}
use Rattle.cli_support.specs.Destination.{TakesOutput}

-- the output takes the text, and standard output also one more newline
abbrev pub TakesText : Option (List ℕ) → List ℕ → Option (List ℕ) → Option (List ℕ) → Type 0
TakesText output text old new = TakesOutput output (text ++ newline ∷ []) old new

-- the arguments ask that only a lockfile that survives the format is written
abbrev pub IsCheckAsked : Found → Type 0
IsCheckAsked found = one_text found (codes "check") ≡ Some (codes "true")

-- the arguments ask that only a lockfile whose text reads back is written
abbrev pub IsTextCheckAsked : Found → Type 0
IsTextCheckAsked found = one_text found (codes "check-text") ≡ Some (codes "true")

-- the text is that of a lockfile that some text means, in the format that the arguments name or
-- else V3; the lockfile survives the format if the arguments ask for `check`, and its text in the
-- format reads back if they ask for `check-text`
abbrev pub PrintsTranslation : Found → Option (List ℕ) → Option (List ℕ) → Type 0
PrintsTranslation found old new = (l : LockfileData) × (format : ResolveVersion) × IsMeant l
    × IsFormatText (unwrap_or (first_value found (codes "version")) (codes "3")) format
    × (IsCheckAsked found → Survives l format)
    × (IsTextCheckAsked found → TextReadsBack l format)
    × TakesText (first_value found (codes "output"))
    (join_lines (lines_of (in_format format l))) old new
