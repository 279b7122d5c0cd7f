-- Marks at places of a list.
use Rattle.std.specs.Prelude.{◌≡◌, ◌+◌, ℕ, Bool, true, cond, List, [], ◌∷◌, Some, slice_get}

-- the place has a mark
abbrev pub IsMarked : List Bool → ℕ → Type 0
IsMarked marks place = slice_get marks place ≡ Some true

-- how many places have no mark
abbrev pub unmarked_count : List Bool → ℕ
unmarked_count [] = 0
unmarked_count (b ∷ bs) = cond b 0 1 + unmarked_count bs
