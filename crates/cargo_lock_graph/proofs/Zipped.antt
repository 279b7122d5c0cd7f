-- Two lists whose elements are related, place by place.
use Rattle.std.proofs.Common.{◌≡◌, ◌∙◌, ◌<◌, ◌+◌, ◌++◌, ◌∷◌, ℕ, List, [], ap, sym, subst, take, length, get_or}
use Rattle.std.specs.List.{AllZip}
use Rattle.std.proofs.lemmas.List.{take_more}

-- with one more element each
pub zip-push : {A B : Type 0} (R : A → B → Type 0) (xs : List A) (ys : List B) (x : A) (y : B) → AllZip R xs ys → R x y → AllZip R (xs ++ x ∷ []) (ys ++ y ∷ [])
zip-push R [] [] x y h r = (r, tt)
zip-push R [] (b ∷ ys) x y h r = absurd h
zip-push R (a ∷ xs) [] x y h r = absurd h
zip-push R (a ∷ xs) (b ∷ ys) x y h r = (h.0, zip-push R xs ys x y h.1 r)

-- with the next element of the first list, and one more
pub zip-more : {A B : Type 0} (R : A → B → Type 0) (xs : List A) (ys : List B) (i : ℕ) (x : A) (y : B) → i < length xs → x ≡ get_or xs i x → AllZip R (take i xs) ys → R x y
    → AllZip R (take (i + 1) xs) (ys ++ y ∷ [])
zip-more {A = A} R xs ys i x y low is h r =
    subst (λ (zs : List A). AllZip R zs (ys ++ y ∷ [])) (sym (take_more xs i x low ∙ ap (λ (z : A). take i xs ++ z ∷ []) (sym is)))
    (zip-push R (take i xs) ys x y h r)

-- the same, with the second list as it is after the push
pub zip-next : {A B : Type 0} (R : A → B → Type 0) (xs : List A) (i : ℕ) (x : A) (old new : List B) (y : B) → i < length xs → x ≡ get_or xs i x → AllZip R (take i xs) old → R x y → new ≡ old ++ y ∷ []
    → AllZip R (take (i + 1) xs) new
zip-next {B = B} R xs i x old new y low is zip one grows = subst (λ (ys : List B). AllZip R (take (i + 1) xs) ys) (sym grows) (zip-more R xs old i x y low is zip one)
