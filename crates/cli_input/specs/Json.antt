-- What the arguments ask for by a flag, and documents of JSON that are printed.
use Rattle.std.specs.Prelude.{◌≡◌, ℕ, Bool, true, false, List, [], ◌∷◌, ◌++◌, ◌⊎◌, Option, Some}
use Rattle.std.specs.Prelude.{None, bytes_eq, codes, if◌then◌else◌}
use Rattle.std.specs.Io.KnownBytes.{Appends}
use Rattle.clap.specs.Matches.{one_text}
use Rattle.clap.specs.declared.parser.matches.Found.{Found}
use Rattle.json.specs.Json.{Json}
use Rattle.printing.specs.Json.{IsJsonText}
use Rattle.cargo_lock_parts.specs.Ascii.{newline}
use Rattle.cargo_lock_encoding.specs.Lockfiles.{LockfileData}
use Rattle.cargo_lock_display.specs.File.{FileData}
use Rattle.cli_support.specs.Input.{given_path_in}

-- the arguments have the flag of this name
abbrev pub IsAsked : Found → List ℕ → Type 0
IsAsked found name = one_text found name ≡ Some (codes "true")

-- the arguments do not have it
abbrev pub IsUnasked : Found → List ℕ → Type 0
IsUnasked found name = (one_text found name ≡ None) ⊎ (one_text found name ≡ Some (codes "false"))

-- the arguments have the flag exactly if it is true
pub record IsFlag (found : Found) (name : List ℕ) (flag : Bool) : Type 0 where
  pub asked : IsAsked found name → flag ≡ true
  pub unasked : IsUnasked found name → flag ≡ false

-- the path of a document: that of the option or argument, none for standard input, `-`
abbrev pub document_path : List ℕ → Option (List ℕ)
document_path path = if bytes_eq path (codes "-") then None else Some path

-- a lockfile as a document has it: the path of an option or argument, and its format
abbrev pub named_file_of : Found → List ℕ → LockfileData → FileData
named_file_of found name l = record {
  path = document_path (given_path_in found name);
  format = l.version;
}

-- one more line is printed: a text for which this holds, and a newline
abbrev pub PrintsLine : (List ℕ → Type 0) → Option (List ℕ) → Option (List ℕ) → Type 0
PrintsLine Holds old new = (text : List ℕ) × Holds text
    × Appends old new (text ++ newline ∷ [])

-- what is printed of an answer: its document if the arguments ask for JSON, and otherwise its lines
pub record PrintsAnswer (found : Found) (document : Json) (lines : List ℕ)
    (old new : Option (List ℕ)) : Type 0 where
  pub asked : IsAsked found (codes "json") → PrintsLine (IsJsonText document) old new
  pub unasked : IsUnasked found (codes "json") → Appends old new lines
