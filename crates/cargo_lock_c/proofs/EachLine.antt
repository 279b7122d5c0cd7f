-- The line of one more item.
use Rattle.std.proofs.Common.{◌≡◌, ◌∙◌, ◌<◌, ◌+◌, ℕ, List, [], ◌∷◌, ◌++◌, length, map, take, get_or, ap, refl, sym}
use Rattle.std.specs.List.{flat_map}
use Rattle.std.proofs.lemmas.List.{flat_map_more, map_more}

-- after the lines of the items before it, that of the next one
pub each-line-more : {X Y : Type 0} (view : X → Y) (line_of : Y → List ℕ) (xs : List X) (i : ℕ) (x : X) (a b line : List ℕ)
    → i < length xs → x ≡ get_or xs i x → a ≡ flat_map (λ y. line_of y ++ 10 ∷ []) (map view (take i xs))
    → line ≡ line_of (view x) ++ 10 ∷ [] → b ≡ a ++ line
    → b ≡ flat_map (λ y. line_of y ++ 10 ∷ []) (map view (take (i + 1) xs))
each-line-more {X} {Y} view line_of xs i x a b line within is before text after =
    let ended : Y → List ℕ = λ y. line_of y ++ 10 ∷ [] in
    let done : List Y = map view (take i xs) in
    let item : map view (take (i + 1) xs) ≡ done ++ view x ∷ [] =
    map_more view xs i x within ∙ ap (λ (y : X). done ++ view y ∷ []) (sym is) in
    let more : a ++ line ≡ flat_map ended done ++ ended (view x) = rw (before, text) refl in
    after ∙ more ∙ flat_map_more ended [] done (view x) ∙ ap (flat_map ended) (sym item)
