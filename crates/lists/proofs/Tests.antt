-- Truth values, and tests of the elements of a list.
use Rattle.std.proofs.Common.{◌≡◌, ◌⊎◌, ◌&&◌, ◌||◌, ◌++◌, Bool, true, false, true≢false, List, [], ◌∷◌, map, not, refl, ap, sym, ◌∙◌, inl, inr, subst}
use Rattle.std.specs.List.{Contains, list_all, list_any}
use Rattle.lists.proofs.Members.{contains-cases as cases, first-in as first, later-in as later, none-in as no-element}

-- ---- truth values

pub and-left : (a b : Bool) → (a && b) ≡ true → a ≡ true
and-left true b e = refl
and-left false b e = e

pub and-right : (a b : Bool) → (a && b) ≡ true → b ≡ true
and-right true b e = e
and-right false b e = absurd (true≢false (sym e))

pub and-both : (a b : Bool) → a ≡ true → b ≡ true → (a && b) ≡ true
and-both true b e f = f
and-both false b e f = e

pub or-left : (a b : Bool) → (a || b) ≡ false → a ≡ false
or-left true b e = e
or-left false b e = refl

pub or-right : (a b : Bool) → (a || b) ≡ false → b ≡ false
or-right true b e = absurd (true≢false e)
or-right false b e = e

pub or-neither : (a b : Bool) → a ≡ false → b ≡ false → (a || b) ≡ false
or-neither true b e f = e
or-neither false b e f = f

pub is-false : (b : Bool) → (b ≡ true → ⊥) → b ≡ false
is-false true h = absurd (h refl)
is-false false h = refl

pub not-both : (b : Bool) → b ≡ true → b ≡ false → ⊥
not-both b t f = true≢false (sym t ∙ f)

pub and-parts : (a b : Bool) → (a && b) ≡ true → (a ≡ true) × (b ≡ true)
and-parts a b e = (and-left a b e, and-right a b e)

pub or-cases : (a b : Bool) → (a || b) ≡ true → (a ≡ true) ⊎ (b ≡ true)
or-cases true b e = inl refl
or-cases false b e = inr e

pub not-false : (b : Bool) → not b ≡ false → b ≡ true
not-false true e = refl
not-false false e = absurd (true≢false e)

pub not-true : (b : Bool) → not b ≡ true → b ≡ false
not-true true e = absurd (true≢false (sym e))
not-true false e = refl

-- ---- elements

pub only : {X : Type 0} (y x : X) → Contains (y ∷ []) x → y ≡ x
only y x h = elim (cases y [] x h) [ inl same ↦ same | inr none ↦ absurd (no-element x none) ]

-- ---- tests of elements

pub all-passes : {X : Type 0} (test : X → Bool) (xs : List X) → list_all test xs ≡ true → (x : X) → Contains xs x → test x ≡ true
all-passes test [] e x h = absurd (no-element x h)
all-passes test (y ∷ ys) e x h = elim (cases y ys x h) [
  | inl same ↦ subst (λ z. test z ≡ true) same (and-left (test y) (list_all test ys) e)
  | inr there ↦ all-passes test ys (and-right (test y) (list_all test ys) e) x there
]

pub passes-all : {X : Type 0} (test : X → Bool) (xs : List X) → ((x : X) → Contains xs x → test x ≡ true) → list_all test xs ≡ true
passes-all test [] h = refl
passes-all test (y ∷ ys) h = and-both (test y) (list_all test ys) (h y (first y ys))
    (passes-all test ys (λ x there. h x (later y ys x there)))

pub any-none : {X : Type 0} (test : X → Bool) (xs : List X) → list_any test xs ≡ false → (x : X) → Contains xs x → test x ≡ false
any-none test [] e x h = absurd (no-element x h)
any-none test (y ∷ ys) e x h = elim (cases y ys x h) [
  | inl same ↦ subst (λ z. test z ≡ false) same (or-left (test y) (list_any test ys) e)
  | inr there ↦ any-none test ys (or-right (test y) (list_any test ys) e) x there
]

pub none-any : {X : Type 0} (test : X → Bool) (xs : List X) → ((x : X) → Contains xs x → test x ≡ false) → list_any test xs ≡ false
none-any test [] h = refl
none-any test (y ∷ ys) h = or-neither (test y) (list_any test ys) (h y (first y ys))
    (none-any test ys (λ x there. h x (later y ys x there)))

pub any-one : {X : Type 0} (test : X → Bool) (xs : List X) → list_any test xs ≡ true → (x : X) × Contains xs x × (test x ≡ true)
any-one test [] e = absurd (true≢false (sym e))
any-one test (y ∷ ys) e = by (test y) refl (any-one test ys)
  where
    by : (b : Bool) → test y ≡ b → (list_any test ys ≡ true → (x : _) × Contains ys x × (test x ≡ true))
        → (x : _) × Contains (y ∷ ys) x × (test x ≡ true)
    by true is rest = (y, first y ys, is)
    by false is rest = let (x, there, passes) = rest (subst (λ (b : Bool). (b || list_any test ys) ≡ true) is e) in
        (x, later y ys x there, passes)

-- a test of what f gives
pub any-map : {X Y : Type 0} (f : X → Y) (test : Y → Bool) (xs : List X) → list_any test (map f xs) ≡ list_any (λ x. test (f x)) xs
any-map f test [] = refl
any-map f test (x ∷ xs) = ap (λ b. test (f x) || b) (any-map f test xs)

-- ---- lists without elements

pub append-none : {X : Type 0} (xs ys : List X) → xs ++ ys ≡ [] → (xs ≡ []) × (ys ≡ [])
append-none [] ys e = (refl, e)
append-none (x ∷ xs) ys e = cc e

pub map-none : {X Y : Type 0} (f : X → Y) (xs : List X) → map f xs ≡ [] → xs ≡ []
map-none f [] e = refl
map-none f (x ∷ xs) e = cc e
