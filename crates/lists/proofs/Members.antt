-- What is in a list, and at a place of it: of an empty list, behind a first element, in a list that
-- is made of another, where an element is put, and among the elements up to a place.
use Rattle.std.proofs.Common.{◌≡◌, ◌<◌, ◌+◌, ◌-◌, ◌⊎◌, ◌∙◌, inl, inr, ℕ, zero, suc, Bool, true, false, cond, List, [], ◌∷◌, ◌++◌, length, get_or, map, reverse, set, slice_get, Some, take, refl, sym, ap, subst, arith, append_assoc}
use Rattle.std.specs.List.{Contains, filter, flat_map}
use Rattle.std.proofs.lemmas.List.{get_or-reverse, length-reverse, reverse-reverse, take_more}
use Rattle.std.proofs.lemmas.List.Elements.{All-contains, All-contains_itself, All-filter, Contains-append_cases, Contains-append_left, Contains-append_right, Contains-push, Contains-push_cases, filter_passes}
use Rattle.std.proofs.lemmas.Option.{get_or_from_slice_get, same_Some, slice_get-get_or, slice_get_read, slice_get_within}

pub none-in : {X : Type 0} (x : X) → ¬ Contains [] x
none-in x h = let low = h.1 in omega (arith, low)

pub first-in : {X : Type 0} (x : X) (xs : List X) → Contains (x ∷ xs) x
first-in x xs = (0, omega arith, refl)

pub later-in : {X : Type 0} (y : X) (ys : List X) (x : X) → Contains ys x → Contains (y ∷ ys) x
later-in y ys x h = (suc h.0, let low = h.1 in omega (arith, low), h.2)

pub contains-cases : {X : Type 0} (y : X) (ys : List X) (x : X) → Contains (y ∷ ys) x → (y ≡ x) ⊎ Contains ys x
contains-cases y ys x (zero, low, is) = inl is
contains-cases y ys x (suc k, low, is) = inr (k, omega (arith, low), is)

-- a list in which nothing is
pub none-left : {X : Type 0} (xs : List X) → ((x : X) → ¬ Contains xs x) → xs ≡ []
none-left [] h = refl
none-left (x ∷ xs) h = absurd (h x (first-in x xs))

-- ---- a map

pub in-map : {X Y : Type 0} (f : X → Y) (xs : List X) (x : X) → Contains xs x → Contains (map f xs) (f x)
in-map f [] x h = absurd (none-in x h)
in-map f (y ∷ ys) x h = elim (contains-cases y ys x h) [
  | inl same ↦ subst (λ z. Contains (f y ∷ map f ys) (f z)) same (first-in (f y) (map f ys))
  | inr there ↦ later-in (f y) (map f ys) (f x) (in-map f ys x there)
]

pub map-in : {X Y : Type 0} (f : X → Y) (xs : List X) (z : Y) → Contains (map f xs) z → (x : X) × Contains xs x × (f x ≡ z)
map-in f [] z h = absurd (none-in z h)
map-in f (y ∷ ys) z h = elim (contains-cases (f y) (map f ys) z h) [
  | inl same ↦ (y, first-in y ys, same)
  | inr there ↦ let r = map-in f ys z there in (r.0, later-in y ys r.0 r.1, r.2)
]

-- ---- a filter

pub kept-in : {X : Type 0} (p : X → Bool) (xs : List X) (x : X) → Contains (filter p xs) x → Contains xs x × (p x ≡ true)
kept-in p xs x h = (
  All-contains (Contains xs) (filter p xs) x (All-filter p (Contains xs) xs (All-contains_itself xs)) h,
  All-contains (λ y. p y ≡ true) (filter p xs) x (filter_passes p xs) h,
)

pub in-kept : {X : Type 0} (p : X → Bool) (xs : List X) (x : X) → Contains xs x → p x ≡ true → Contains (filter p xs) x
in-kept p [] x h passes = h
in-kept p (y ∷ ys) x h passes = elim (contains-cases y ys x h) [
  | inl same ↦ rw (ap p same ∙ passes) (subst (λ z. Contains (y ∷ filter p ys) z) same (first-in y (filter p ys)))
  | inr there ↦ elim (p y) as (λ b. Contains (cond b (y ∷ filter p ys) (filter p ys)) x) [
    | true ↦ later-in y (filter p ys) x (in-kept p ys x there passes)
    | false ↦ in-kept p ys x there passes
  ]
]

-- ---- a list the other way round

pub in-reverse : {X : Type 0} (xs : List X) (x : X) → Contains xs x → Contains (reverse xs) x
in-reverse xs x (k, low, is) =
    let j : ℕ = length xs - 1 - k in
    let long = length-reverse xs in
    let within : j < length xs = omega (arith, low) in
    let back : length xs - 1 - j ≡ k = omega (arith, low) in
    (j, omega (arith, within, long), get_or-reverse xs j x within ∙ ap (λ i. get_or xs i x) back ∙ is)

pub from-reverse : {X : Type 0} (xs : List X) (x : X) → Contains (reverse xs) x → Contains xs x
from-reverse xs x h = subst (λ ys. Contains ys x) (reverse-reverse xs) (in-reverse (reverse xs) x h)

-- ---- the lists of elements, joined

pub in-joined : {X Y : Type 0} (f : X → List Y) (xs : List X) (x : X) (y : Y) → Contains xs x → Contains (f x) y → Contains (flat_map f xs) y
in-joined f [] x y h k = absurd (none-in x h)
in-joined f (z ∷ zs) x y h k = elim (contains-cases z zs x h) [
  | inl same ↦ Contains-append_left (f z) (flat_map f zs) y (subst (λ w. Contains (f w) y) (sym same) k)
  | inr there ↦ Contains-append_right (f z) (flat_map f zs) y (in-joined f zs x y there k)
]

pub joined-in : {X Y : Type 0} (f : X → List Y) (xs : List X) (y : Y) → Contains (flat_map f xs) y → (x : X) × Contains xs x × Contains (f x) y
joined-in f [] y h = absurd (none-in y h)
joined-in f (z ∷ zs) y h = elim (Contains-append_cases (f z) (flat_map f zs) y h) [
  | inl here ↦ (z, first-in z zs, here)
  | inr there ↦ let r = joined-in f zs y there in (r.0, later-in z zs r.0 r.1, r.2)
]

-- ---- the element at a place

pub got-in : {X : Type 0} (xs : List X) (k : ℕ) (x : X) → slice_get xs k ≡ Some x → Contains xs x
got-in xs k x is = (k, slice_get_within xs k x is, get_or_from_slice_get xs k x x is)

pub in-got : {X : Type 0} (xs : List X) (x : X) → Contains xs x → (k : ℕ) × (slice_get xs k ≡ Some x)
in-got xs x (k, low, is) = (k, slice_get-get_or xs k x low ∙ ap Some is)

-- a place of a list has one element
pub same-at : {X : Type 0} (xs : List X) (k : ℕ) (x y : X) → slice_get xs k ≡ Some x → slice_get xs k ≡ Some y → x ≡ y
same-at xs k x y f g = same_Some x y (sym f ∙ g)

-- what is read at a place of the list does not turn on the value for places behind it
pub same-read : {X : Type 0} (xs : List X) (i : ℕ) (x d : X) → i < length xs → x ≡ get_or xs i x → get_or xs i d ≡ x
same-read xs i x d low is = get_or_from_slice_get xs i x d (slice_get_read xs (length xs) i x refl low is)

pub same-place : {X : Type 0} (xs : List X) (i : ℕ) (d e : X) → i < length xs → get_or xs i e ≡ get_or xs i d
same-place xs i d e low = get_or_from_slice_get xs i (get_or xs i d) e (slice_get-get_or xs i d low)

-- ---- an element that is put at a place, or behind the last one

pub slice_get-set_other : {X : Type 0} (xs : List X) (i k : ℕ) (v : X) → ¬ (k ≡ i) → slice_get (set xs i v) k ≡ slice_get xs k
slice_get-set_other [] i k v h = refl
slice_get-set_other (x ∷ xs) zero zero v h = absurd (h refl)
slice_get-set_other (x ∷ xs) zero (suc k) v h = refl
slice_get-set_other (x ∷ xs) (suc i) zero v h = refl
slice_get-set_other (x ∷ xs) (suc i) (suc k) v h = slice_get-set_other xs i k v (λ e. h (ap suc e))

pub slice_get-set_same : {X : Type 0} (xs : List X) (i : ℕ) (v : X) → i < length xs → slice_get (set xs i v) i ≡ Some v
slice_get-set_same [] i v h = absurd (omega (arith, h))
slice_get-set_same (x ∷ xs) zero v h = refl
slice_get-set_same (x ∷ xs) (suc i) v h = slice_get-set_same xs i v (omega (arith, h))

pub get-push : {X : Type 0} (xs : List X) (x y : X) (k : ℕ) → slice_get (xs ++ x ∷ []) k ≡ Some y → (slice_get xs k ≡ Some y) ⊎ ((k ≡ length xs) × (x ≡ y))
get-push [] x y zero h = inr (refl, same_Some x y h)
get-push [] x y (suc k) h = cc h
get-push (z ∷ xs) x y zero h = inl h
get-push (z ∷ xs) x y (suc k) h = elim (get-push xs x y k h) [
  | inl before ↦ inl before
  | inr last ↦ inr (ap suc last.0, last.1)
]

pub get-before : {X : Type 0} (xs : List X) (x y : X) (k : ℕ) → slice_get xs k ≡ Some y → slice_get (xs ++ x ∷ []) k ≡ Some y
get-before [] x y k h = cc h
get-before (z ∷ xs) x y zero h = h
get-before (z ∷ xs) x y (suc k) h = get-before xs x y k h

pub get-last : {X : Type 0} (xs : List X) (x : X) → slice_get (xs ++ x ∷ []) (length xs) ≡ Some x
get-last [] x = refl
get-last (z ∷ xs) x = get-last xs x

-- ---- the elements up to a place

-- the next element joins those so far
pub joined-next : {X : Type 0} (front : List X) (x : X) (rest left all : List X) → left ≡ x ∷ rest → front ++ left ≡ all → (front ++ x ∷ []) ++ rest ≡ all
joined-next front x rest left all is joined = append_assoc front (x ∷ []) rest ∙ ap (λ ys. front ++ ys) (sym is) ∙ joined

pub taken-cases : {X : Type 0} (xs : List X) (i : ℕ) (x y : X) → i < length xs → y ≡ get_or xs i y → Contains (take (i + 1) xs) x → Contains (take i xs) x ⊎ (y ≡ x)
taken-cases xs i x y low is h =
    Contains-push_cases (take i xs) y x
    (subst (λ zs. Contains zs x) (take_more xs i y low ∙ ap (λ z. take i xs ++ z ∷ []) (sym is)) h)

pub taken-before : {X : Type 0} (xs : List X) (i : ℕ) (x y : X) → i < length xs → Contains (take i xs) x → Contains (take (i + 1) xs) x
taken-before xs i x y low h = subst (λ zs. Contains zs x) (sym (take_more xs i y low)) (Contains-append_left (take i xs) (get_or xs i y ∷ []) x h)

pub taken-last : {X : Type 0} (xs : List X) (i : ℕ) (y : X) → i < length xs → y ≡ get_or xs i y → Contains (take (i + 1) xs) y
taken-last xs i y low is =
    subst (λ zs. Contains zs y) (sym (take_more xs i y low ∙ ap (λ z. take i xs ++ z ∷ []) (sym is))) (Contains-push (take i xs) y)
