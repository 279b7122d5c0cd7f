-- Findings by places, one place after another.
use Rattle.std.proofs.Common.{◌≡◌, ◌<◌, ◌+◌, ℕ, List, [], ◌∷◌, ◌++◌, length, get_or, take, Option, None, Some, refl, ap, sym, ◌∙◌, append_assoc}
use Rattle.std.specs.List.{cons_option, filter_map}
use Rattle.std.specs.Option.{option_to_list}
use Rattle.std.proofs.lemmas.List.{take_more}
use Rattle.std.proofs.lemmas.List.Elements.{filter_map-append}

filter_map-one : {X Y : Type 0} (h : X → Option Y) (x : X) → filter_map h (x ∷ []) ≡ option_to_list (h x)
filter_map-one {X} {Y} h x = go (h x)
  where
    go : (o : Option Y) → cons_option o [] ≡ option_to_list o
    go None = refl
    go (Some y) = refl

filter_map_more : {X Y : Type 0} (h : X → Option Y) (xs : List X) (i : ℕ) (d : X) → i < length xs
    → filter_map h (take (i + 1) xs) ≡ filter_map h (take i xs) ++ option_to_list (h (get_or xs i d))
filter_map_more h xs i d lt =
    ap (filter_map h) (take_more xs i d lt) ∙ filter_map-append h (take i xs) (get_or xs i d ∷ [])
    ∙ ap (λ ys. filter_map h (take i xs) ++ ys) (filter_map-one h (get_or xs i d))

-- one more finding, or none
pub told-more : {X Y : Type 0} (h : X → Option Y) (xs : List X) (i : ℕ) (d : X) (base before after : List Y) (o : Option Y) → i < length xs
    → before ≡ base ++ filter_map h (take i xs) → after ≡ before ++ option_to_list o → o ≡ h (get_or xs i d)
    → after ≡ base ++ filter_map h (take (i + 1) xs)
told-more h xs i d base before after o lt so_far grows is =
    grows ∙ (λ k. so_far k ++ option_to_list (is k)) ∙ append_assoc base (filter_map h (take i xs)) (option_to_list (h (get_or xs i d)))
    ∙ ap (λ ys. base ++ ys) (sym (filter_map_more h xs i d lt))
