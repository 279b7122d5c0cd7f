-- The first items of a list, one after another.
use Rattle.std.proofs.Common.{◌≡◌, ℕ, ◌+◌, suc, List, [], ◌∷◌, ◌++◌, map, take, slice_get, Some, sym, ap, ◌∙◌, arith}
use Rattle.std.proofs.Math.Seq.{take-suc}
use Rattle.std.proofs.lemmas.List.{map-append}
use Rattle.std.proofs.lemmas.Option.{slice_get_within, get_or_from_slice_get}

-- the item at a place is the next one
pub take-next : {X : Type 0} (xs : List X) (k : ℕ) (x : X) → slice_get xs k ≡ Some x → take (k + 1) xs ≡ take k xs ++ x ∷ []
take-next xs k x at =
    let e : k + 1 ≡ suc k = omega arith in
    ap (λ n. take n xs) e
    ∙ take-suc xs k x (slice_get_within xs k x at)
    ∙ ap (λ y. take k xs ++ y ∷ []) (get_or_from_slice_get xs k x x at)

-- what is made of the items so far, and of the next one
pub next-made : {X Y Z : Type 0} (f : X → Z) (g : Y → Z) (xs : List X) (ys more : List Y) (k : ℕ) (x : X) (y : Y)
    → slice_get xs k ≡ Some x → map g ys ≡ map f (take k xs) → g y ≡ f x → more ≡ ys ++ y ∷ [] → map g more ≡ map f (take (k + 1) xs)
next-made f g xs ys more k x y at made one grown =
    ap (map g) grown ∙ map-append g ys (y ∷ [])
    ∙ (λ i. made i ++ one i ∷ [])
    ∙ sym (map-append f (take k xs) (x ∷ []))
    ∙ ap (map f) (sym (take-next xs k x at))
