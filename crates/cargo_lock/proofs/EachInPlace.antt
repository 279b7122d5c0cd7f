-- A list each element of which is replaced in its place.
use Rattle.std.proofs.Common.{◌≡◌, ◌<◌, ◌≤◌, ◌+◌, ◌-◌, ℕ, suc, List, [], ◌∷◌, ◌++◌, length, get_or, set, map, take, drop, refl, sym, ap, subst, ◌∙◌, arith, append_assoc, length-append, length-take, length-drop, drop-cons}
use Rattle.std.proofs.lemmas.List.{get_or_at, length-map, map-append, set_at, take_more}

-- one more element is replaced
pub one-more : {X : Type 0} (f : X → X) (xs ps : List X) (i : ℕ) (x y : X) → i < length ps → ps ≡ map f (take i xs) ++ drop i xs
    → x ≡ get_or ps i x → y ≡ f x → set ps i y ≡ map f (take (i + 1) xs) ++ drop (i + 1) xs
one-more {X} f xs ps i x y low is at made =
    let front : List X = map f (take i xs) in
    let taken = length-take i xs in
    let left = length-drop i xs in
    let whole = ap length is in
    let joined = length-append front (drop i xs) in
    let mapped = length-map (take i xs) f in
    let within : i < length xs = omega (arith, low, taken, left, whole, joined, mapped) in
    let long : length front ≡ i = omega (arith, within, taken, mapped) in
    let a : X = get_or xs i x in
    let on : suc i ≡ i + 1 = omega arith in
    let rest : drop i xs ≡ a ∷ drop (i + 1) xs = drop-cons xs i x within ∙ ap (λ n. a ∷ drop n xs) on in
    let split : ps ≡ front ++ a ∷ drop (i + 1) xs = is ∙ ap (λ ys. front ++ ys) rest in
    let same : x ≡ a = at ∙ ap (λ ys. get_or ys i x) split ∙ get_or_at front a (drop (i + 1) xs) x i long in
    ap (λ ys. set ys i y) split ∙ set_at front a (drop (i + 1) xs) y i long
    ∙ ap (λ z. front ++ z ∷ drop (i + 1) xs) (made ∙ ap f same)
    ∙ sym (append_assoc front (f a ∷ []) (drop (i + 1) xs))
    ∙ ap (λ ys. ys ++ drop (i + 1) xs) (sym (map-append f (take i xs) (a ∷ [])) ∙ ap (map f) (sym (take_more xs i x within)))
