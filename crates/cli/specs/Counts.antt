-- The line of counts with which `check` and `licenses` end.
use Rattle.std.specs.Prelude.{◌==◌, ◌++◌, ◌∷◌, [], ℕ, List, codes, decimal, if◌then◌else◌}
use Rattle.cargo_lock_parts.specs.Ascii.{newline}

-- a noun in the singular or the plural
abbrev pub noun : ℕ → List ℕ → List ℕ → List ℕ
noun n one more = if n == 1 then one else more

-- how many packages were looked at, and how much was found
abbrev pub counts_line : ℕ → ℕ → List ℕ
counts_line packages findings =
    decimal packages ++ (codes " " ++ (noun packages (codes "package") (codes "packages")
    ++ (codes ", " ++ (decimal findings ++ (codes " "
    ++ (noun findings (codes "finding") (codes "findings") ++ newline ∷ []))))))
