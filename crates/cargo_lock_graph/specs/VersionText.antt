-- The numbers of a version, as a label has them.
use Rattle.std.specs.Prelude.{List, ℕ, ◌∷◌, ◌++◌, decimal}
use Rattle.semver.specs.Parse.{Parts}
use Rattle.cargo_lock_parts.specs.Ascii.{dot, space}

-- a space, and the three numbers with a dot before each but the first
abbrev pub numbers_text : Parts → List ℕ
numbers_text v = space ∷ (decimal v.0 ++ (dot ∷ (decimal v.1 ++ (dot ∷ decimal v.2))))
