-- Walks over lists, and refusals of readers.
use Rattle.std.proofs.Common.{◌≡◌, ◌<◌, ◌+◌, inl, inr, ℕ, List, [], ◌∷◌, ◌++◌, length, map, take, get_or, Option, option_map}
use Rattle.std.proofs.lemmas.List.{map-append, take_more}
use Rattle.cargo_lock_parts.specs.declared.error.Error.{Error}
use Rattle.cargo_lock_parts.specs.declared.error.Error.TheVariants.{Io, Parse, Version, Resolution, Memory}
use Rattle.cargo_lock_parts.specs.Error.{Refuses, RefusesUrls}

-- the items read so far, before what the rest reads as
abbrev pub after : {X : Type 0} → List X → Option (List X) → Option (List X)
after done o = option_map (λ xs. done ++ xs) o

-- a refusal for another reason
pub Refuses-by : (e : Error) (P Q : Type 0) → Refuses e P → (P → Q) → Refuses e Q
Refuses-by (Io kind) P Q h f = absurd h
Refuses-by (Parse message) P Q h f = f h
Refuses-by (Version fault) P Q h f = absurd h
Refuses-by (Resolution message) P Q h f = absurd h
Refuses-by Memory P Q h f = tt

-- the same of a reader of URLs, with evidence of another kind
pub RefusesUrls-by : (e : Error) (L M P Q : Type 0) → RefusesUrls L e P → (L → M) → (P → Q) → RefusesUrls M e Q
RefusesUrls-by (Io kind) L M P Q h g f = absurd h
RefusesUrls-by (Parse message) L M P Q (inl p) g f = inl (f p)
RefusesUrls-by (Parse message) L M P Q (inr long) g f = inr (long.0, g long.1)
RefusesUrls-by (Version fault) L M P Q h g f = absurd h
RefusesUrls-by (Resolution message) L M P Q h g f = absurd h
RefusesUrls-by Memory L M P Q h g f = tt

-- a refusal of a reader that reads no URL
pub RefusesUrls-exactly : (e : Error) (M P Q : Type 0) → Refuses e P → (P → Q) → RefusesUrls M e Q
RefusesUrls-exactly (Io kind) M P Q h f = absurd h
RefusesUrls-exactly (Parse message) M P Q h f = inl (f h)
RefusesUrls-exactly (Version fault) M P Q h f = absurd h
RefusesUrls-exactly (Resolution message) M P Q h f = absurd h
RefusesUrls-exactly Memory M P Q h f = tt

-- one more item, mapped on both sides
pub map-more : {A B C : Type 0} (f : A → C) (g : B → C) (xs : List A) (x : A) (ys : List B) (i : ℕ) (y : B) → i < length ys → y ≡ get_or ys i y → f x ≡ g y → map f xs ≡ map g (take i ys)
    → map f (xs ++ x ∷ []) ≡ map g (take (i + 1) ys)
map-more f g xs x ys i y h is same before = rw (take_more ys i y h, map-append f xs (x ∷ []), map-append g (take i ys) (get_or ys i y ∷ []), before, same, ← is)
