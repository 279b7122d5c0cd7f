-- What is kept of a list, element by element.
use Rattle.std.proofs.Common.{◌≡◌, ◌<◌, ◌+◌, ℕ, List, [], ◌∷◌, ◌++◌, length, get_or, map, take, Option, None, Some, refl, ap, ◌∙◌}
use Rattle.std.specs.List.{cons_option, filter_map}
use Rattle.std.specs.Option.{option_to_list}
use Rattle.std.proofs.lemmas.List.{take_more}
use Rattle.std.proofs.lemmas.List.Elements.{filter_map-append}

-- one element more
pub kept-more : {X Y : Type 0} (keep : X → Option Y) (xs : List X) (i : ℕ) (x : X) → i < length xs → get_or xs i x ≡ x
    → filter_map keep (take (i + 1) xs) ≡ filter_map keep (take i xs) ++ option_to_list (keep x)
kept-more {X} {Y} keep xs i x low is =
    ap (filter_map keep) (take_more xs i x low ∙ ap (λ y. take i xs ++ y ∷ []) is)
    ∙ filter_map-append keep (take i xs) (x ∷ [])
    ∙ ap (λ ys. filter_map keep (take i xs) ++ ys) (alone (keep x))
  where
    alone : (o : Option Y) → cons_option o [] ≡ option_to_list o
    alone None = refl
    alone (Some y) = refl

-- what is kept of elements by what is made of them
pub some-kept : {X Y Z : Type 0} (of : X → Y) (keep : Y → Option Z) (xs : List X) → filter_map (λ x. keep (of x)) xs ≡ filter_map keep (map of xs)
some-kept of keep [] = refl
some-kept of keep (x ∷ xs) = ap (cons_option (keep (of x))) (some-kept of keep xs)

-- where each is kept, it is a map
pub each-kept : {X Y Z : Type 0} (of : X → Y) (kept : Y → Z) (xs : List X) → filter_map (λ x. Some (kept (of x))) xs ≡ map kept (map of xs)
each-kept of kept [] = refl
each-kept of kept (x ∷ xs) = ap (λ ys. kept (of x) ∷ ys) (each-kept of kept xs)
