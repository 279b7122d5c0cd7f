-- What holds of each element of a list and each later one.
use Rattle.std.proofs.Common.{All, suc, List, [], ◌∷◌, ◌++◌, get_or, map, subst, arith}
use Rattle.std.specs.List.{AllPairs, Contains}
use Rattle.std.proofs.lemmas.List.Elements.{All-append, All-contains, Contains-get_or}
use Rattle.std.proofs.lemmas.List.Kept.{AllPairs-cons}
use Rattle.lists.proofs.Members.{first-in, later-in, map-in}

-- ---- each element

pub all-of : {X : Type 0} (P : X → Type 0) (xs : List X) → ((x : X) → Contains xs x → P x) → All P xs
all-of P xs h k d low = h (get_or xs k d) (Contains-get_or xs k d low)

-- ---- pairs

first-pairs : {X : Type 0} (R : X → X → Type 0) (x : X) (xs : List X) → AllPairs R (x ∷ xs) → All (R x) xs
first-pairs R x xs h k d low = h 0 (suc k) d (omega arith) (omega (arith, low))

later-pairs : {X : Type 0} (R : X → X → Type 0) (x : X) (xs : List X) → AllPairs R (x ∷ xs) → AllPairs R xs
later-pairs R x xs h i j d lt low = h (suc i) (suc j) d (omega (arith, lt)) (omega (arith, low))

pub pairs-append : {X : Type 0} (R : X → X → Type 0) (xs ys : List X) → AllPairs R xs → AllPairs R ys → ((x y : X) → Contains xs x → Contains ys y → R x y) → AllPairs R (xs ++ ys)
pairs-append R [] ys f g across = g
pairs-append R (x ∷ xs) ys f g across =
    AllPairs-cons R x (xs ++ ys)
    (All-append (R x) xs ys (first-pairs R x xs f) (all-of (R x) ys (λ y c. across x y (first-in x xs) c)))
    (pairs-append R xs ys (later-pairs R x xs f) g (λ z y c e. across z y (later-in x xs z c) e))

pub pairs-map : {X Y : Type 0} (R : Y → Y → Type 0) (f : X → Y) (xs : List X) → AllPairs (λ a b. R (f a) (f b)) xs → AllPairs R (map f xs)
pairs-map R f [] h = λ i j d lt low. absurd (omega (arith, low))
pairs-map R f (x ∷ xs) h =
    let ahead : All (λ z. R (f x) (f z)) xs = first-pairs (λ a b. R (f a) (f b)) x xs h in
    AllPairs-cons R (f x) (map f xs)
    (all-of (R (f x)) (map f xs) (λ y c. let (z, among, is) = map-in f xs y c in subst (R (f x)) is (All-contains (λ z. R (f x) (f z)) xs z ahead among)))
    (pairs-map R f xs (later-pairs (λ a b. R (f a) (f b)) x xs h))

pub pairs-weaker : {X : Type 0} (R S : X → X → Type 0) (xs : List X) → ((a b : X) → R a b → S a b) → AllPairs R xs → AllPairs S xs
pairs-weaker R S xs weaker h i j d lt low = weaker (get_or xs i d) (get_or xs j d) (h i j d lt low)
