-- The destination of a command's text.
use Rattle.std.specs.Prelude.{◌≡◌, ℕ, List, ◌⊎◌, Option, Some, None, codes}
use Rattle.std.specs.Io.KnownBytes.{Appends, Keeps}

-- the value of the option for the output, if there is one, means standard output
abbrev pub IsPrinted : Option (List ℕ) → Type 0
IsPrinted output = (output ≡ None) ⊎ (output ≡ Some (codes "-"))

-- standard output takes the text if it is the output, and nothing if the text goes to a file
abbrev pub TakesOutput : Option (List ℕ) → List ℕ → Option (List ℕ) → Option (List ℕ) → Type 0
TakesOutput output text old new = (IsPrinted output → Appends old new text)
    × ((¬ IsPrinted output) → Keeps old new)
