-- What holds for each line of a picture's text.
use Rattle.std.specs.Prelude.{◌≡◌, ℕ, List, [], ◌∷◌, ◌++◌}
use Rattle.cargo_lock_parts.specs.Identity.{PackageData}
use Rattle.cargo_lock_diagram.specs.Diagram.{arrow_line, package_node_line}
use Rattle.cargo_lock_diagram.specs.declared.label.Target.{Target}
use Rattle.cargo_lock_diagram.specs.declared.scene.Arrow.{Arrow}
use Rattle.printing.specs.Laws.{IsPrintable, newline}

-- the text is one line: printable characters and a newline after them
abbrev pub IsOneLine : List ℕ → Type 0
IsOneLine text = (body : List ℕ) × IsPrintable body × (text ≡ body ++ newline ∷ [])

-- a package is one line, whatever its name and its version hold
abbrev pub EachPackageIsOneLine : Type 0
EachPackageIsOneLine = (target : Target) (node : ℕ) (p : PackageData)
    → IsOneLine (package_node_line target node p)

-- an edge is one line
abbrev pub EachArrowIsOneLine : Type 0
EachArrowIsOneLine = (target : Target) (arrow : Arrow) → IsOneLine (arrow_line target arrow)
