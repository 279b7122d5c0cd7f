-- Ascending lists of places.
use Rattle.std.proofs.Common.{◌≡◌, ℕ, ◌+◌, ◌-◌, ◌<◌, ◌≤◌, ◌⊎◌, ◌↔◌, inl, inr, List, [], ◌∷◌, ◌++◌, length, get_or, take, drop, refl, sym, ap, subst, ◌∙◌, arith, length-append, length-drop}
use Rattle.std.specs.List.{Contains}
use Rattle.std.specs.List.Sorted.{IsStrictlyIncreasing}
use Rattle.std.proofs.lemmas.Bool.{cases_eq, cases_lt}
use Rattle.std.proofs.lemmas.List.{get_or_append_left, get_or-append_right, get_or_default, get_or-drop, take_more, drop_all, take-append-drop, append-nil}
use Rattle.std.proofs.lemmas.List.Elements.{Contains-append_left, Contains-append_right, Contains-append_cases, Contains-push, Contains-push_cases}
use Rattle.std.proofs.lemmas.List.Kept.{AllPairs-from_increasing}
use Rattle.lists.proofs.Members.{none-in}
use Rattle.cargo_lock_merge_core.specs.Sets.{AreBelowPlace}

-- earlier places are below later ones
pub far-below : (xs : List ℕ) → IsStrictlyIncreasing xs → (i j : ℕ) → i < j → j < length xs → get_or xs i 0 < get_or xs j 0
far-below xs up i j lt within = AllPairs-from_increasing xs up i j 0 lt within

-- where a list of places goes on with greater ones
pub up-append : (xs ys : List ℕ) → IsStrictlyIncreasing xs → IsStrictlyIncreasing ys
    → ((i j : ℕ) → i < length xs → j < length ys → get_or xs i 0 < get_or ys j 0) → IsStrictlyIncreasing (xs ++ ys)
up-append xs ys up up' cross k within =
    let long = length-append xs ys in
    elim (cases_lt (k + 1) (length xs)) [
      | inl low ↦
          let low' : k < length xs = omega arith in
          rw (get_or_append_left xs ys 0 k low', get_or_append_left xs ys 0 (k + 1) low) (up k low)
      | inr high ↦ elim (cases_lt k (length xs)) [
        | inl low ↦
            rw (get_or_append_left xs ys 0 k low, get_or-append_right xs ys (length xs) (k + 1) 0 refl high) (cross k (k + 1 - length xs) low (omega (arith, long, within)))
        | inr high' ↦
            let e : k + 1 - length xs ≡ (k - length xs) + 1 = omega arith in
            let l : (k - length xs) + 1 < length ys = omega (arith, long, within) in
            rw (get_or-append_right xs ys (length xs) k 0 refl high', get_or-append_right xs ys (length xs) (k + 1) 0 refl high, e) (up' (k - length xs) l)
      ]
    ]

one-up : (x : ℕ) → IsStrictlyIncreasing (x ∷ [])
one-up x k within = absurd (omega (arith, within))

pub up-push : (xs : List ℕ) (x : ℕ) → IsStrictlyIncreasing xs → ((k : ℕ) → k < length xs → get_or xs k 0 < x) → IsStrictlyIncreasing (xs ++ x ∷ [])
up-push xs x up below = up-append xs (x ∷ []) up (one-up x)
    (λ i j low one. let e : j ≡ 0 = omega arith in rw e (below i low))

pub up-drop : (xs : List ℕ) (i : ℕ) → IsStrictlyIncreasing xs → IsStrictlyIncreasing (drop i xs)
up-drop xs i up k within =
    let long = length-drop i xs in
    let e : i + (k + 1) ≡ (i + k) + 1 = omega arith in
    rw (get_or-drop i xs k 0, get_or-drop i xs (k + 1) 0, e) (up (i + k) (omega (arith, long, within)))

-- the place is in the list just where the search stops at it
pub stops-at : (xs : List ℕ) (at place : ℕ) → IsStrictlyIncreasing xs → AreBelowPlace xs at place → (at < length xs → place ≤ get_or xs at 0)
    → Contains xs place → (at < length xs) × (get_or xs at 0 ≡ place)
stops-at xs at place up below above h =
    let k : ℕ = h.0 in
    let within : k < length xs = h.1 in
    let is : get_or xs k 0 ≡ place = get_or_default xs k 0 place within ∙ h.2 in
    elim (cases_lt k at) [
      | inl low ↦ absurd (let l = below k low within in omega (arith, l, is))
      | inr high ↦
          let in' : at < length xs = omega arith in
          let ge = above in' in
          elim (cases_eq at k) [
            | inl same ↦ (in', ap (λ n. get_or xs n 0) same ∙ is)
            | inr other ↦ absurd (let l = far-below xs up at k (omega arith) within in omega (arith, l, is, ge))
          ]
    ]

pub is-there : (xs : List ℕ) (at place : ℕ) → at < length xs → get_or xs at 0 ≡ place → Contains xs place
is-there xs at place low is = (at, low, get_or_default xs at place 0 low ∙ is)

pub below-more : (xs : List ℕ) (at place : ℕ) → AreBelowPlace xs at place → get_or xs at 0 < place → AreBelowPlace xs (at + 1) place
below-more xs at place below here k low within = elim (cases_eq k at) [
  | inl same ↦ rw same here
  | inr other ↦ below k (omega arith) within
]

-- ---- the places of two lists

-- So many of each list are taken, and what is taken is below what is to come.
pub record IsUnion (xs ys : List ℕ) (i j : ℕ) (all : List ℕ) : Type 0 where
  pub xs_within : i ≤ length xs
  pub ys_within : j ≤ length ys
  pub ascending : IsStrictlyIncreasing all
  pub xs_above : (k : ℕ) → k < length all → i < length xs → get_or all k 0 < get_or xs i 0
  pub ys_above : (k : ℕ) → k < length all → j < length ys → get_or all k 0 < get_or ys j 0
  pub holds : (p : ℕ) → Contains all p ↔ (Contains (take i xs) p ⊎ Contains (take j ys) p)

pub union-start : (xs ys : List ℕ) → IsUnion xs ys 0 0 []
union-start xs ys = record {
  xs_within = omega arith;
  ys_within = omega arith;
  ascending = λ k within. absurd (omega (arith, within));
  xs_above = λ k low within. absurd (omega (arith, low));
  ys_above = λ k low within. absurd (omega (arith, low));
  holds = λ p. (λ h. absurd (none-in p h), λ h. elim h [ inl l ↦ absurd (none-in p l) | inr r ↦ absurd (none-in p r) ]);
}

-- what is taken stays below one more
pub pushed-below : (all : List ℕ) (x y : ℕ) → ((k : ℕ) → k < length all → get_or all k 0 < y) → x < y → (k : ℕ) → k < length (all ++ x ∷ []) → get_or (all ++ x ∷ []) k 0 < y
pushed-below all x y below lt k within =
    let long = length-append all (x ∷ []) in
    elim (cases_lt k (length all)) [
      | inl low ↦ rw (get_or_append_left all (x ∷ []) 0 k low) (below k low)
      | inr high ↦
          let e : k - length all ≡ 0 = omega (arith, long, within) in
          rw (get_or-append_right all (x ∷ []) (length all) k 0 refl high, e) lt
    ]

pub taken-more : (xs : List ℕ) (i : ℕ) → i < length xs → (p : ℕ) → Contains (take (i + 1) xs) p ↔ (Contains (take i xs) p ⊎ (get_or xs i 0 ≡ p))
taken-more xs i low p =
    let more = take_more xs i 0 low in (
      λ h. Contains-push_cases (take i xs) (get_or xs i 0) p (subst (λ zs. Contains zs p) more h),
      λ h. subst (λ zs. Contains zs p) (sym more) (elim h [
        | inl old ↦ Contains-append_left (take i xs) (get_or xs i 0 ∷ []) p old
        | inr new ↦ subst (λ n. Contains (take i xs ++ get_or xs i 0 ∷ []) n) new (Contains-push (take i xs) (get_or xs i 0))
      ]),
    )

-- the next place of the first list is below that of the second
pub union-first : (xs ys : List ℕ) (i j : ℕ) (all : List ℕ) → IsUnion xs ys i j all → IsStrictlyIncreasing xs → i < length xs → j < length ys
    → get_or xs i 0 < get_or ys j 0 → IsUnion xs ys (i + 1) j (all ++ get_or xs i 0 ∷ [])
union-first xs ys i j all u up low low' lt =
    let x : ℕ = get_or xs i 0 in
    record {
      xs_within = omega arith;
      ys_within = u.ys_within;
      ascending = up-push all x u.ascending (λ k h. u.xs_above k h low);
      xs_above = λ k h within. pushed-below all x (get_or xs (i + 1) 0) (λ n h'. let a = u.xs_above n h' low in let b = far-below xs up i (i + 1) (omega arith) within in omega (arith, a, b)) (far-below xs up i (i + 1) (omega arith) within) k h;
      ys_above = λ k h within. pushed-below all x (get_or ys j 0) (λ n h'. u.ys_above n h' within) lt k h;
      holds = λ p. (
        λ h. elim (Contains-push_cases all x p h) [
          | inl old ↦ elim ((u.holds p).0 old) [
            | inl l ↦ inl ((taken-more xs i low p).1 (inl l))
            | inr r ↦ inr r
          ]
          | inr new ↦ inl ((taken-more xs i low p).1 (inr new))
        ],
        λ h. elim h [
          | inl l ↦ elim ((taken-more xs i low p).0 l) [
            | inl old ↦ Contains-append_left all (x ∷ []) p ((u.holds p).1 (inl old))
            | inr new ↦ subst (λ n. Contains (all ++ x ∷ []) n) new (Contains-push all x)
          ]
          | inr r ↦ Contains-append_left all (x ∷ []) p ((u.holds p).1 (inr r))
        ],
      );
    }

-- the next place of the second list is below that of the first
pub union-second : (xs ys : List ℕ) (i j : ℕ) (all : List ℕ) → IsUnion xs ys i j all → IsStrictlyIncreasing ys → i < length xs → j < length ys
    → get_or ys j 0 < get_or xs i 0 → IsUnion xs ys i (j + 1) (all ++ get_or ys j 0 ∷ [])
union-second xs ys i j all u up low low' lt =
    let y : ℕ = get_or ys j 0 in
    record {
      xs_within = u.xs_within;
      ys_within = omega arith;
      ascending = up-push all y u.ascending (λ k h. u.ys_above k h low');
      ys_above = λ k h within. pushed-below all y (get_or ys (j + 1) 0) (λ n h'. let a = u.ys_above n h' low' in let b = far-below ys up j (j + 1) (omega arith) within in omega (arith, a, b)) (far-below ys up j (j + 1) (omega arith) within) k h;
      xs_above = λ k h within. pushed-below all y (get_or xs i 0) (λ n h'. u.xs_above n h' within) lt k h;
      holds = λ p. (
        λ h. elim (Contains-push_cases all y p h) [
          | inl old ↦ elim ((u.holds p).0 old) [
            | inl l ↦ inl l
            | inr r ↦ inr ((taken-more ys j low' p).1 (inl r))
          ]
          | inr new ↦ inr ((taken-more ys j low' p).1 (inr new))
        ],
        λ h. elim h [
          | inl l ↦ Contains-append_left all (y ∷ []) p ((u.holds p).1 (inl l))
          | inr r ↦ elim ((taken-more ys j low' p).0 r) [
            | inl old ↦ Contains-append_left all (y ∷ []) p ((u.holds p).1 (inr old))
            | inr new ↦ subst (λ n. Contains (all ++ y ∷ []) n) new (Contains-push all y)
          ]
        ],
      );
    }

-- both lists have the next place
pub union-both : (xs ys : List ℕ) (i j : ℕ) (all : List ℕ) → IsUnion xs ys i j all → IsStrictlyIncreasing xs → IsStrictlyIncreasing ys → i < length xs → j < length ys
    → get_or xs i 0 ≡ get_or ys j 0 → IsUnion xs ys (i + 1) (j + 1) (all ++ get_or ys j 0 ∷ [])
union-both xs ys i j all u up up' low low' same =
    let y : ℕ = get_or ys j 0 in
    record {
      xs_within = omega arith;
      ys_within = omega arith;
      ascending = up-push all y u.ascending (λ k h. u.ys_above k h low');
      xs_above = λ k h within. pushed-below all y (get_or xs (i + 1) 0) (λ n h'. let a = u.xs_above n h' low in let b = far-below xs up i (i + 1) (omega arith) within in omega (arith, a, b)) (let b = far-below xs up i (i + 1) (omega arith) within in omega (arith, b, same)) k h;
      ys_above = λ k h within. pushed-below all y (get_or ys (j + 1) 0) (λ n h'. let a = u.ys_above n h' low' in let b = far-below ys up' j (j + 1) (omega arith) within in omega (arith, a, b)) (far-below ys up' j (j + 1) (omega arith) within) k h;
      holds = λ p. (
        λ h. elim (Contains-push_cases all y p h) [
          | inl old ↦ elim ((u.holds p).0 old) [
            | inl l ↦ inl ((taken-more xs i low p).1 (inl l))
            | inr r ↦ inr ((taken-more ys j low' p).1 (inl r))
          ]
          | inr new ↦ inr ((taken-more ys j low' p).1 (inr new))
        ],
        λ h. elim h [
          | inl l ↦ elim ((taken-more xs i low p).0 l) [
            | inl old ↦ Contains-append_left all (y ∷ []) p ((u.holds p).1 (inl old))
            | inr new ↦ subst (λ n. Contains (all ++ y ∷ []) n) (sym same ∙ new) (Contains-push all y)
          ]
          | inr r ↦ elim ((taken-more ys j low' p).0 r) [
            | inl old ↦ Contains-append_left all (y ∷ []) p ((u.holds p).1 (inr old))
            | inr new ↦ subst (λ n. Contains (all ++ y ∷ []) n) new (Contains-push all y)
          ]
        ],
      );
    }

-- what is taken goes on with the rest of a list
rest-above : (all xs : List ℕ) (i : ℕ) → IsStrictlyIncreasing xs → ((k : ℕ) → k < length all → i < length xs → get_or all k 0 < get_or xs i 0)
    → (k l : ℕ) → k < length all → l < length (drop i xs) → get_or all k 0 < get_or (drop i xs) l 0
rest-above all xs i up above k l low within =
    let long = length-drop i xs in
    let in' : i + l < length xs = omega (arith, long, within) in
    let a = above k low (omega (arith, in')) in
    rw (get_or-drop i xs l 0) (elim (cases_eq l 0) [
      | inl zero ↦ let e : i + l ≡ i = omega arith in rw e a
      | inr more ↦ let b = far-below xs up i (i + l) (omega arith) in' in omega (arith, a, b)
    ])

parts : (xs : List ℕ) (i p : ℕ) → Contains xs p → Contains (take i xs) p ⊎ Contains (drop i xs) p
parts xs i p h = Contains-append_cases (take i xs) (drop i xs) p (subst (λ zs. Contains zs p) (sym (take-append-drop i xs)) h)

part-left : (xs : List ℕ) (i p : ℕ) → Contains (take i xs) p → Contains xs p
part-left xs i p h = subst (λ zs. Contains zs p) (take-append-drop i xs) (Contains-append_left (take i xs) (drop i xs) p h)

part-right : (xs : List ℕ) (i p : ℕ) → Contains (drop i xs) p → Contains xs p
part-right xs i p h = subst (λ zs. Contains zs p) (take-append-drop i xs) (Contains-append_right (take i xs) (drop i xs) p h)

pub end-up : (xs ys : List ℕ) (i j : ℕ) (all : List ℕ) → IsUnion xs ys i j all → IsStrictlyIncreasing xs → IsStrictlyIncreasing ys → (length xs ≤ i) ⊎ (length ys ≤ j)
    → IsStrictlyIncreasing ((all ++ drop i xs) ++ drop j ys)
end-up xs ys i j all u up up' (inl done) = rw (drop_all i xs done, append-nil all)
    (up-append all (drop j ys) u.ascending (up-drop ys j up') (rest-above all ys j up' u.ys_above))
end-up xs ys i j all u up up' (inr done) = rw (drop_all j ys done, append-nil (all ++ drop i xs))
    (up-append all (drop i xs) u.ascending (up-drop xs i up) (rest-above all xs i up u.xs_above))

pub end-holds : (xs ys : List ℕ) (i j : ℕ) (all : List ℕ) → IsUnion xs ys i j all
    → (p : ℕ) → Contains ((all ++ drop i xs) ++ drop j ys) p ↔ (Contains xs p ⊎ Contains ys p)
end-holds xs ys i j all u p =
    let ours : List ℕ = all ++ drop i xs in (
      λ h. elim (Contains-append_cases ours (drop j ys) p h) [
        | inl l ↦ elim (Contains-append_cases all (drop i xs) p l) [
          | inl holds ↦ elim ((u.holds p).0 holds) [
            | inl a ↦ inl (part-left xs i p a)
            | inr b ↦ inr (part-left ys j p b)
          ]
          | inr rest ↦ inl (part-right xs i p rest)
        ]
        | inr r ↦ inr (part-right ys j p r)
      ],
      λ h. elim h [
        | inl a ↦ Contains-append_left ours (drop j ys) p (elim (parts xs i p a) [
          | inl holds ↦ Contains-append_left all (drop i xs) p ((u.holds p).1 (inl holds))
          | inr rest ↦ Contains-append_right all (drop i xs) p rest
        ])
        | inr b ↦ elim (parts ys j p b) [
          | inl holds ↦ Contains-append_left ours (drop j ys) p (Contains-append_left all (drop i xs) p ((u.holds p).1 (inr holds)))
          | inr rest ↦ Contains-append_right ours (drop j ys) p rest
        ]
      ],
    )
