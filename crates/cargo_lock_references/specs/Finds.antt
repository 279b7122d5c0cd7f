-- What a search returns.
use Rattle.std.specs.Prelude.{Result, Ok, Err}
use Rattle.cargo_lock_parts.specs.declared.error.Error.{Error}
use Rattle.cargo_lock_parts.specs.Error.{Refuses, RefusesUrls}

-- `Ok` only with a value for which P holds, and `Parse` only if P holds for none
abbrev pub Finds : {X : Type 0} → (X → Type 0) → Result X Error → Type 0
Finds {X} P (Ok x) = P x
Finds {X} P (Err e) = Refuses e ((x : X) → ¬ P x)

-- the same if URLs are read, one of which may have 4 GB or more if L holds
abbrev pub FindsUrls : {X : Type 0} → Type 0 → (X → Type 0) → Result X Error → Type 0
FindsUrls {X} L P (Ok x) = P x
FindsUrls {X} L P (Err e) = RefusesUrls L e ((x : X) → ¬ P x)
