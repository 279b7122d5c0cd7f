-- An expression is true exactly if one of its alternatives has all its terms allowed.
use Rattle.std.proofs.Common.{◌≡◌, ◌||◌, ◌++◌, ◌∷◌, [], ℕ, Bool, true, false, true≢false, List, bytes_eq, inl, inr, map, refl, subst, sym}
use Rattle.std.specs.List.{All, Contains}
use Rattle.std.proofs.lemmas.Slice.Eq.{bytes_eq-Decides}
use Rattle.std.proofs.lemmas.List.Folds.{Any-from_list_any, list_any-from_Any}
use Rattle.std.proofs.lemmas.List.Elements.{All-append, All-cons, All-contains, All-head, All-nil, All-tail, All-weaker, Contains-append_cases, Contains-append_left, Contains-append_right}
use Rattle.cargo_lock_licenses.specs.Allowed.{IsAllowed, MoreAllowMore, alternatives}
use Rattle.cargo_lock_licenses.specs.Evaluation.{is_term}
use Rattle.cargo_lock_licenses.specs.Grammar.{Both, Either, Term, Tree}
use Rattle.cargo_lock_licenses.proofs.Complete.{value}
use Rattle.lists.proofs.Members.{contains-cases as cases, first-in as first, in-joined as in-flat, in-map, joined-in as of-flat, map-in as of-map, none-in as no-element}
use Rattle.lists.proofs.Tests.{and-both, and-parts as both-true, or-cases as either-true}

all-left : {X : Type 0} (P : X → Type 0) (xs ys : List X) → All P (xs ++ ys) → All P xs
all-left P [] ys h = All-nil P
all-left P (x ∷ xs) ys h = All-cons P x xs (All-head P x (xs ++ ys) h) (all-left P xs ys (All-tail P x (xs ++ ys) h))

all-right : {X : Type 0} (P : X → Type 0) (xs ys : List X) → All P (xs ++ ys) → All P ys
all-right P [] ys h = h
all-right P (x ∷ xs) ys h = all-right P xs ys (All-tail P x (xs ++ ys) h)

-- ---- terms

pub term-allowed : (allowed : List (List ℕ)) (t : List ℕ) → is_term allowed t ≡ true → Contains allowed t
term-allowed allowed t e =
    let (k, x, low, at, passes) = Any-from_list_any (λ x. bytes_eq x t) allowed e in
    subst (Contains allowed) ((bytes_eq-Decides x t).0 passes) (k, low, at)

pub allowed-term : (allowed : List (List ℕ)) (t : List ℕ) → Contains allowed t → is_term allowed t ≡ true
allowed-term allowed t h =
    let (k, low, at) = h in
    list_any-from_Any (λ x. bytes_eq x t) allowed (k, t, low, at, (bytes_eq-Decides t t).1 refl)

-- ---- values

pub allowed-if : (allowed : List (List ℕ)) (e : Tree) → value allowed e ≡ true → IsAllowed allowed e
allowed-if allowed (Term t) is = (t ∷ [], first (t ∷ []) [], All-cons (Contains allowed) t [] (term-allowed allowed t is) (All-nil (Contains allowed)))
allowed-if allowed (Either l r) is = elim (either-true (value allowed l) (value allowed r) is) [
  | inl left ↦ (let (a, there, all) = allowed-if allowed l left in (a, Contains-append_left (alternatives l) (alternatives r) a there, all))
  | inr right ↦ (let (a, there, all) = allowed-if allowed r right in (a, Contains-append_right (alternatives l) (alternatives r) a there, all))
]
allowed-if allowed (Both l r) is =
    let (left, right) = both-true (value allowed l) (value allowed r) is in
    let (a, in-l, all-a) = allowed-if allowed l left in
    let (b, in-r, all-b) = allowed-if allowed r right in (
      a ++ b,
      in-flat (λ x. map (λ y. x ++ y) (alternatives r)) (alternatives l) a (a ++ b) in-l (in-map (λ y. a ++ y) (alternatives r) b in-r),
      All-append (Contains allowed) a b all-a all-b,
    )

or-left : (a b : Bool) → a ≡ true → (a || b) ≡ true
or-left true b e = refl
or-left false b e = absurd (true≢false (sym e))

or-right : (a b : Bool) → b ≡ true → (a || b) ≡ true
or-right true b e = refl
or-right false b e = e

pub only-if : (allowed : List (List ℕ)) (e : Tree) → IsAllowed allowed e → value allowed e ≡ true
only-if allowed (Term t) h = let (a, there, all) = h in elim (cases (t ∷ []) [] a there) [
  | inl same ↦ allowed-term allowed t (All-head (Contains allowed) t [] (subst (All (Contains allowed)) (sym same) all))
  | inr none ↦ absurd (no-element a none)
]
only-if allowed (Either l r) h = let (a, there, all) = h in elim (Contains-append_cases (alternatives l) (alternatives r) a there) [
  | inl left ↦ or-left (value allowed l) (value allowed r) (only-if allowed l (a, left, all))
  | inr right ↦ or-right (value allowed l) (value allowed r) (only-if allowed r (a, right, all))
]
only-if allowed (Both l r) h =
    let (c, there, all) = h in
    let (a, in-l, at) = of-flat (λ x. map (λ y. x ++ y) (alternatives r)) (alternatives l) c there in
    let (b, in-r, same) = of-map (λ y. a ++ y) (alternatives r) c at in
    let both = subst (All (Contains allowed)) (sym same) all in
    and-both (value allowed l) (value allowed r)
    (only-if allowed l (a, in-l, all-left (Contains allowed) a b both))
    (only-if allowed r (b, in-r, all-right (Contains allowed) a b both))

-- more terms allow more
pub more-allow-more : MoreAllowMore
more-allow-more some more e within is =
    let (a, there, all) = is in
    (a, there, All-weaker (Contains some) (Contains more) (λ t h. All-contains (Contains more) some t within h) a all)
