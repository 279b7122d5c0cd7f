-- What is printed of a merge.
use Rattle.std.proofs.Common.{List, ℕ, ◌∙◌, ◌++◌, None, Option, Some, ap}
use Rattle.std.specs.Io.KnownBytes.{Appends, Keeps}

-- what is appended to bytes that were kept
pub keeps_appends : (a b c : Option (List ℕ)) (x : List ℕ) → Keeps a b → Appends b c x → Appends a c x
keeps_appends None b c x h k = tt
keeps_appends (Some xs) None c x h k = absurd h
keeps_appends (Some xs) (Some ys) None x h k = absurd k
keeps_appends (Some xs) (Some ys) (Some zs) x h k = k ∙ ap (λ (ws : List ℕ). ws ++ x) h
