-- Which of two chains is earlier.
use Rattle.std.proofs.Common.{◌≡◌, ◌∙◌, ◌<◌, inl, inr, ℕ, List, [], ◌∷◌, ◌++◌, length, refl, arith, length-append}
use Rattle.cargo_lock_query.specs.Chains.{IsNoLater, IsNoWorse}
use Rattle.cargo_lock_query.specs.FirstChains.{IsBeforeByPlaces, IsEarlier}

-- ---- the same node, or another one, behind two chains

before-on : (xs ys : List ℕ) (x y : ℕ) → IsBeforeByPlaces xs ys → IsBeforeByPlaces (xs ++ x ∷ []) (ys ++ y ∷ [])
before-on [] ys x y h = absurd h
before-on (a ∷ xs) [] x y h = absurd h
before-on (a ∷ xs) (b ∷ ys) x y h = elim h [
  | inl less ↦ inl less
  | inr even ↦ inr (even.0, before-on xs ys x y even.1)
]

pub earlier-on : (xs ys : List ℕ) (x y : ℕ) → IsEarlier xs ys → IsEarlier (xs ++ x ∷ []) (ys ++ y ∷ [])
earlier-on xs ys x y h =
    let a = length-append xs (x ∷ []) in
    let b = length-append ys (y ∷ []) in
    elim h [
      | inl less ↦ inl (omega (arith, a, b, less))
      | inr even ↦ inr (let e = even.0 in omega (arith, a, b, e), before-on xs ys x y even.1)
    ]

before-last : (xs : List ℕ) (x y : ℕ) → x < y → IsBeforeByPlaces (xs ++ x ∷ []) (xs ++ y ∷ [])
before-last [] x y low = inl low
before-last (a ∷ xs) x y low = inr (refl, before-last xs x y low)

pub earlier-last : (xs : List ℕ) (x y : ℕ) → x < y → IsEarlier (xs ++ x ∷ []) (xs ++ y ∷ [])
earlier-last xs x y low =
    let a = length-append xs (x ∷ []) in
    let b = length-append xs (y ∷ []) in
    inr (omega (arith, a, b), before-last xs x y low)

-- one node, and more than one
pub earlier-alone : (k : ℕ) (xs : List ℕ) (x : ℕ) → 0 < length xs → IsEarlier (k ∷ []) (xs ++ x ∷ [])
earlier-alone k xs x some = let a = length-append xs (x ∷ []) in inl (omega (arith, a, some))

-- ---- no worse

no-later-before : (xs ys : List ℕ) → IsBeforeByPlaces xs ys → IsNoLater xs ys
no-later-before [] ys h = absurd h
no-later-before (x ∷ xs) [] h = absurd h
no-later-before (x ∷ xs) (y ∷ ys) h = elim h [
  | inl less ↦ inl less
  | inr even ↦ inr (even.0, no-later-before xs ys even.1)
]

pub earlier-no-worse : (xs ys : List ℕ) → IsEarlier xs ys → IsNoWorse xs ys
earlier-no-worse xs ys h = elim h [
  | inl less ↦ inl less
  | inr even ↦ inr (even.0, no-later-before xs ys even.1)
]

no-later-self : (xs : List ℕ) → IsNoLater xs xs
no-later-self [] = tt
no-later-self (x ∷ xs) = inr (refl, no-later-self xs)

pub no-worse-self : (xs : List ℕ) → IsNoWorse xs xs
no-worse-self xs = inr (refl, no-later-self xs)

no-later-on : (xs ys : List ℕ) (x : ℕ) → length xs ≡ length ys → IsNoLater xs ys → IsNoLater (xs ++ x ∷ []) (ys ++ x ∷ [])
no-later-on [] [] x same h = inr (refl, tt)
no-later-on [] (b ∷ ys) x same h = absurd (omega (arith, same))
no-later-on (a ∷ xs) [] x same h = absurd h
no-later-on (a ∷ xs) (b ∷ ys) x same h = elim h [
  | inl less ↦ inl less
  | inr even ↦ inr (even.0, no-later-on xs ys x (omega (arith, same)) even.1)
]

pub no-worse-on : (xs ys : List ℕ) (x : ℕ) → IsNoWorse xs ys → IsNoWorse (xs ++ x ∷ []) (ys ++ x ∷ [])
no-worse-on xs ys x h =
    let a = length-append xs (x ∷ []) in
    let b = length-append ys (x ∷ []) in
    elim h [
      | inl less ↦ inl (omega (arith, a, b, less))
      | inr even ↦ inr (let e = even.0 in omega (arith, a, b, e), no-later-on xs ys x even.0 even.1)
    ]

no-later-both : (xs ys zs : List ℕ) → IsNoLater xs ys → IsNoLater ys zs → IsNoLater xs zs
no-later-both [] ys zs h g = tt
no-later-both (x ∷ xs) [] zs h g = absurd h
no-later-both (x ∷ xs) (y ∷ ys) [] h g = absurd g
no-later-both (x ∷ xs) (y ∷ ys) (z ∷ zs) h g = elim h [
  | inl less ↦ elim g [
    | inl more ↦ inl (omega (arith, less, more))
    | inr same ↦ inl (let e = same.0 in omega (arith, less, e))
  ]
  | inr even ↦ elim g [
    | inl more ↦ inl (let e = even.0 in omega (arith, more, e))
    | inr same ↦ inr (even.0 ∙ same.0, no-later-both xs ys zs even.1 same.1)
  ]
]

pub no-worse-both : (xs ys zs : List ℕ) → IsNoWorse xs ys → IsNoWorse ys zs → IsNoWorse xs zs
no-worse-both xs ys zs h g = elim h [
  | inl less ↦ elim g [
    | inl more ↦ inl (omega (arith, less, more))
    | inr same ↦ inl (let e = same.0 in omega (arith, less, e))
  ]
  | inr even ↦ elim g [
    | inl more ↦ inl (let e = even.0 in omega (arith, more, e))
    | inr same ↦ inr (even.0 ∙ same.0, no-later-both xs ys zs even.1 same.1)
  ]
]
