-- Groups by a key, one place after another.
use Rattle.std.proofs.Common.{◌≡◌, ◌<◌, ◌+◌, ◌⊎◌, ◌↔◌, ◌∙◌, inl, inr, ℕ, zero, suc, Bool, true, false, cond, List, [], ◌∷◌, ◌++◌, MatchOption, length, get_or, set, slice_get, unwrap_or, Option, Some, None, refl, sym, ap, subst, arith, length-append}
use Rattle.std.specs.List.{Contains}
use Rattle.std.specs.Map.{lookup}
use Rattle.std.specs.BTreeMap.{is_at}
use Rattle.std.specs.Cmp.{Equal-is, IsTotalOrder}
use Rattle.std.specs.Ordering.{is_eq, ordering_reverse}
use Rattle.std.specs.declared.cmp.Ordering.{Ordering}
use Rattle.std.specs.declared.cmp.Ordering.TheVariants.{Equal}
use Rattle.std.proofs.lemmas.Bool.{cases_eq}
use Rattle.std.proofs.lemmas.List.Elements.{Contains-append_left, Contains-get_or, Contains-push}
use Rattle.std.proofs.lemmas.List.Quantifiers.{all_pairs_push}
use Rattle.std.proofs.lemmas.Option.{get_or_from_slice_get, same_Some, slice_get-get_or, slice_get_within}
use Rattle.std.proofs.Math.ListN.{length-set}
use Rattle.lists.specs.Groups.{AreGroups, AreKeys, GroupedData, HasBegun, HasGrown, HasPutByKey, HaveGrouped, group_number, places_or_none, key_places}
use Rattle.lists.specs.Places.{IsPlaces}
use Rattle.lists.proofs.Members.{first-in, get-before, get-last, get-push, none-in, same-at, slice_get-set_other, slice_get-set_same}
use Rattle.lists.proofs.Places.{places-alike, places-pass, places-put}

-- ---- keys

equal-back : {K : Type 0} (cmp : K → K → Ordering) → IsTotalOrder cmp → (a b : K) → cmp a b ≡ Equal → cmp b a ≡ Equal
equal-back cmp o a b e = o.antisymm b a ∙ ap ordering_reverse e

-- equal keys have one number
pub equal-number : {K : Type 0} (cmp : K → K → Ordering) → IsTotalOrder cmp → (g : GroupedData K) (a b : K) → cmp a b ≡ Equal → group_number cmp g a ≡ group_number cmp g b
equal-number {K} cmp o g a b e = ap (λ (c : K → Ordering). lookup (is_at c) g.numbers) (λ i z. o.congr a b z e i)

-- what a key has after another one was put under a number
pub begun-number : {K : Type 0} (cmp : K → K → Ordering) (old new : GroupedData K) (key : K) (place : ℕ) → HasBegun cmp old new key place → (other : K)
    → ((cmp key other ≡ Equal) × (group_number cmp new other ≡ Some (length old.groups))) ⊎ ((¬ (cmp key other ≡ Equal)) × (group_number cmp new other ≡ group_number cmp old other))
begun-number cmp old new key place h other = go (is_eq (cmp key other)) (Equal-is (cmp key other)) (h.numbers other) where
  go : (b : Bool) → (b ≡ true) ↔ (cmp key other ≡ Equal) → group_number cmp new other ≡ cond b (Some (length old.groups)) (group_number cmp old other)
      → ((cmp key other ≡ Equal) × (group_number cmp new other ≡ Some (length old.groups))) ⊎ ((¬ (cmp key other ≡ Equal)) × (group_number cmp new other ≡ group_number cmp old other))
  go true same is = inl (same.0 refl, is)
  go false same is = inr (λ e. let w : false ≡ true = same.1 e in cc w, is)

-- the key has a number or none
pub put-cases : {K : Type 0} (cmp : K → K → Ordering) (old new : GroupedData K) (key : K) (place : ℕ) → HasPutByKey cmp old new key place
    → ((group_number cmp old key ≡ None) × HasBegun cmp old new key place) ⊎ ((n : ℕ) × (group_number cmp old key ≡ Some n) × HasGrown old new n place)
put-cases cmp old new key place h = elim (group_number cmp old key) as (λ o. group_number cmp old key ≡ o → ((group_number cmp old key ≡ None) × HasBegun cmp old new key place) ⊎ ((n : ℕ) × (group_number cmp old key ≡ Some n) × HasGrown old new n place)) [
  | None ↦ λ e. inl (e, subst (λ o. MatchOption o (HasBegun cmp old new key place) (λ m. HasGrown old new m place)) e h)
  | Some n ↦ λ e. inr (n, e, subst (λ o. MatchOption o (HasBegun cmp old new key place) (λ m. HasGrown old new m place)) e h)
] refl

-- ---- the places of a key

in-group : (groups : List (List ℕ)) (n k : ℕ) → Contains (unwrap_or (slice_get groups n) []) k → (places : List ℕ) × (slice_get groups n ≡ Some places) × Contains places k
in-group groups n k h = elim (slice_get groups n) as (λ o. slice_get groups n ≡ o → Contains (unwrap_or o []) k → (places : List ℕ) × (slice_get groups n ≡ Some places) × Contains places k) [
  | None ↦ λ e g. absurd (none-in k g)
  | Some places ↦ λ e g. (places, e, g)
] refl h

kept-before : (groups : List (List ℕ)) (more : List ℕ) (o : Option ℕ) (k : ℕ) → Contains (places_or_none groups o) k → Contains (places_or_none (groups ++ more ∷ []) o) k
kept-before groups more None k h = h
kept-before groups more (Some n) k h =
    let (places, at, among) = in-group groups n k h in
    rw (get-before groups more places n at) among

kept-grown : (groups : List (List ℕ)) (n : ℕ) (places : List ℕ) (place : ℕ) (o : Option ℕ) (k : ℕ) → slice_get groups n ≡ Some places → Contains (places_or_none groups o) k
    → Contains (places_or_none (set groups n (places ++ place ∷ [])) o) k
kept-grown groups n places place None k at h = h
kept-grown groups n places place (Some m) k at h = elim (cases_eq m n) [
  | inl same ↦
      let (mine, there, among) = in-group groups m k h in
      let is : mine ≡ places = same-at groups n mine places (subst (λ i. slice_get groups i ≡ Some mine) same there) at in
      rw (same, slice_get-set_same groups n (places ++ place ∷ []) (slice_get_within groups n places at))
      (Contains-append_left places (place ∷ []) k (subst (λ ks. Contains ks k) is among))
  | inr else ↦ rw (slice_get-set_other groups n m (places ++ place ∷ []) else) h
]

-- the place is one of those of the key
pub put-added : {K : Type 0} (cmp : K → K → Ordering) (old new : GroupedData K) (key other : K) (place : ℕ) → IsTotalOrder cmp → HasPutByKey cmp old new key place → cmp key other ≡ Equal
    → Contains (key_places cmp new other) place
put-added cmp old new key other place o put same = elim (put-cases cmp old new key place put) [
  | inl (bare, begun) ↦
      let number : group_number cmp new other ≡ Some (length old.groups) = elim (begun-number cmp old new key place begun other) [
        | inl mine ↦ mine.1
        | inr else ↦ absurd (else.0 same)
      ] in
      rw (number, begun.groups, get-last old.groups (place ∷ [])) (first-in place [])
  | inr (n, is, grown) ↦
      let number : group_number cmp new other ≡ Some n = ap (λ ns. lookup (is_at (cmp other)) ns) grown.numbers ∙ sym (equal-number cmp o old key other same) ∙ is in
      rw (number, grown.groups, slice_get-set_same old.groups n (grown.places ++ place ∷ []) (slice_get_within old.groups n grown.places grown.at)) (Contains-push grown.places place)
]

-- no place is lost
pub put-kept : {K : Type 0} (cmp : K → K → Ordering) (old new : GroupedData K) (key other : K) (place k : ℕ) → IsTotalOrder cmp → HasPutByKey cmp old new key place
    → Contains (key_places cmp old other) k → Contains (key_places cmp new other) k
put-kept cmp old new key other place k o put h = elim (put-cases cmp old new key place put) [
  | inl (bare, begun) ↦ elim (begun-number cmp old new key place begun other) [
    | inl mine ↦ absurd (none-in k (subst (λ n. Contains (places_or_none old.groups n) k) (sym (equal-number cmp o old key other mine.0) ∙ bare) h))
    | inr else ↦ subst (λ n. Contains (places_or_none new.groups n) k) (sym else.1)
        (subst (λ gs. Contains (places_or_none gs (group_number cmp old other)) k) (sym begun.groups) (kept-before old.groups (place ∷ []) (group_number cmp old other) k h))
  ]
  | inr (n, is, grown) ↦
      let same : group_number cmp new other ≡ group_number cmp old other = ap (λ ns. lookup (is_at (cmp other)) ns) grown.numbers in
      subst (λ m. Contains (places_or_none new.groups m) k) (sym same)
      (subst (λ gs. Contains (places_or_none gs (group_number cmp old other)) k) (sym grown.groups) (kept-grown old.groups n grown.places place (group_number cmp old other) k grown.at h))
]

-- ---- the order of groups

first-grown : (places : List ℕ) (n : ℕ) → 0 < length places → get_or (places ++ n ∷ []) 0 0 ≡ get_or places 0 0
first-grown [] n h = absurd (omega (arith, h))
first-grown (k ∷ places) n h = refl

same-firsts : (groups : List (List ℕ)) (n i : ℕ) (old new d : List ℕ) → slice_get groups n ≡ Some old → get_or new 0 0 ≡ get_or old 0 0
    → get_or (get_or (set groups n new) i d) 0 0 ≡ get_or (get_or groups i d) 0 0
same-firsts [] n i old new d at same = refl
same-firsts (g ∷ groups) zero zero old new d at same = same ∙ ap (λ (ns : List ℕ). get_or ns 0 0) (sym (same_Some g old at))
same-firsts (g ∷ groups) zero (suc i) old new d at same = refl
same-firsts (g ∷ groups) (suc n) zero old new d at same = refl
same-firsts (g ∷ groups) (suc n) (suc i) old new d at same = same-firsts groups n i old new d at same

-- ---- one place more

-- no place below the bound has the key
no-places : (P : ℕ → Type 0) (bound : ℕ) → ((k : ℕ) → k < bound → ¬ P k) → IsPlaces P bound []
no-places P bound none = record {
  ascending = λ k lt. absurd (omega (arith, lt));
  listed = λ k. (λ h. absurd (none-in k h), λ h. absurd (none k h.0 h.1));
}

-- each group begins below the bound
firsts-below : {K : Type 0} (has : ℕ → K → Type 0) (bound : ℕ) (number : K → Option ℕ) (groups : List (List ℕ)) → HaveGrouped has bound number groups
    → (k : ℕ) (d : List ℕ) → k < length groups → get_or (get_or groups k d) 0 0 < bound
firsts-below has bound number groups h k d low =
    let (key, is) = h.named k (get_or groups k d) (slice_get-get_or groups k d low) in
    let (places, at, some, are) = h.found key k is in
    let same : get_or groups k d ≡ places = get_or_from_slice_get groups k places d at in
    subst (λ (ns : List ℕ). get_or ns 0 0 < bound) (sym same) ((are.listed (get_or places 0 0)).0 (Contains-get_or places 0 0 some)).0

-- the place at the bound has a key that has a number
group-grown : {K : Type 0} (cmp : K → K → Ordering) (has : ℕ → K → Type 0) (bound : ℕ) (x : K) (number : K → Option ℕ) (groups : List (List ℕ)) (n : ℕ) (places longer : List ℕ)
    → AreKeys cmp has → ((a b : K) → cmp a b ≡ Equal → number a ≡ number b)
    → has bound x → number x ≡ Some n → slice_get groups n ≡ Some places → longer ≡ places ++ bound ∷ []
    → HaveGrouped has bound number groups → HaveGrouped has (bound + 1) number (set groups n longer)
group-grown {K} cmp has bound x number groups n places longer keys alike here is-n at long h = record {
  found = found;
  none = λ key bare k low has-it. elim (cases_eq k bound) [
    | inl same ↦ absurd (let e : None ≡ Some n = sym bare ∙ alike key x (keys.one bound key x (subst (λ i. has i key) same has-it) here) ∙ is-n in cc e)
    | inr other ↦ h.none key bare k (omega (arith, low, other)) has-it
  ];
  named = λ m ns is. elim (cases_eq m n) [
    | inl same ↦ (x, is-n ∙ ap Some (sym same))
    | inr other ↦ h.named m ns (sym (slice_get-set_other groups n m longer other) ∙ is)
  ];
  in_order = λ i j d lt low.
      let e = same-firsts groups n i places longer d at grown in
      let f = same-firsts groups n j places longer d at grown in
      let count = length-set groups n longer in
      let old = h.in_order i j d lt (omega (arith, low, count)) in
      omega (arith, e, f, old);
} where
  mine : (places' : List ℕ) × (slice_get groups n ≡ Some places') × (0 < length places') × IsPlaces (λ k. has k x) bound places'
  mine = h.found x n is-n

  some : 0 < length places
  some = subst (λ (ns : List ℕ). 0 < length ns) (same-at groups n mine.0 places mine.1 at) mine.2

  are : IsPlaces (λ k. has k x) bound places
  are = subst (IsPlaces (λ k. has k x) bound) (same-at groups n mine.0 places mine.1 at) mine.3

  grown : get_or longer 0 0 ≡ get_or places 0 0
  grown = ap (λ (ns : List ℕ). get_or ns 0 0) long ∙ first-grown places bound some

  put : IsPlaces (λ k. has k x) (bound + 1) longer
  put = places-put (λ k. has k x) bound (bound + 1) places longer are here refl long

  found : (key : K) (m : ℕ) → number key ≡ Some m → (ns : List ℕ) × (slice_get (set groups n longer) m ≡ Some ns) × (0 < length ns) × IsPlaces (λ k. has k key) (bound + 1) ns
  found key m is =
      let old = h.found key m is in
      elim (cases_eq m n) [
        | inl same ↦
            let one : old.0 ≡ places = same-at groups n old.0 places (subst (λ i. slice_get groups i ≡ Some old.0) same old.1) at in
            let among : Contains places (get_or places 0 0) = Contains-get_or places 0 0 some in
            let theirs : IsPlaces (λ k. has k key) bound places = subst (IsPlaces (λ k. has k key) bound) one old.3 in
            let with-x : has (get_or places 0 0) x = ((are.listed (get_or places 0 0)).0 among).1 in
            let with-key : has (get_or places 0 0) key = ((theirs.listed (get_or places 0 0)).0 among).1 in (
              longer,
              subst (λ i. slice_get (set groups n longer) i ≡ Some longer) (sym same) (slice_get-set_same groups n longer (slice_get_within groups n places at)),
              (let count = ap length long in let more = length-append places (bound ∷ []) in omega (arith, count, more)),
              places-alike (λ k. has k x) (λ k. has k key) (bound + 1) longer
                  (λ k g. keys.same k x key (keys.one (get_or places 0 0) x key with-x with-key) g)
                  (λ k g. keys.same k key x (keys.one (get_or places 0 0) key x with-key with-x) g) put,
            )
        | inr other ↦ (
          old.0,
          slice_get-set_other groups n m longer other ∙ old.1,
          old.2,
          places-pass (λ k. has k key) bound (bound + 1) old.0 old.3
              (λ has-it. let e : Some m ≡ Some n = sym is ∙ alike key x (keys.one bound key x has-it here) ∙ is-n in other (same_Some m n e)) refl,
        )
      ]

-- the place at the bound has a key that has no number
group-begun : {K : Type 0} (cmp : K → K → Ordering) (has : ℕ → K → Type 0) (bound : ℕ) (x : K) (number more : K → Option ℕ) (groups longer : List (List ℕ))
    → AreKeys cmp has → ((a b : K) → cmp a b ≡ Equal → number a ≡ number b) → cmp x x ≡ Equal
    → has bound x → number x ≡ None
    → ((q : K) → ((cmp x q ≡ Equal) × (more q ≡ Some (length groups))) ⊎ ((¬ (cmp x q ≡ Equal)) × (more q ≡ number q)))
    → longer ≡ groups ++ (bound ∷ []) ∷ []
    → HaveGrouped has bound number groups → HaveGrouped has (bound + 1) more longer
group-begun {K} cmp has bound x number more groups longer keys alike itself here bare puts long h = subst (HaveGrouped has (bound + 1) more) (sym long) (record {
  found = found;
  none = none;
  named = λ m ns is. elim (get-push groups (bound ∷ []) ns m is) [
    | inl before ↦ old-named m (h.named m ns before)
    | inr last ↦ (x, number-x ∙ ap Some (sym last.0))
  ];
  in_order = all_pairs_push (λ (a b : List ℕ). get_or a 0 0 < get_or b 0 0) groups (bound ∷ []) h.in_order (firsts-below has bound number groups h);
}) where
  number-x : more x ≡ Some (length groups)
  number-x = elim (puts x) [
    | inl mine ↦ mine.1
    | inr other ↦ absurd (other.0 itself)
  ]

  old-named : (m : ℕ) → (key : K) × (number key ≡ Some m) → (key : K) × (more key ≡ Some m)
  old-named m (key, is) = (
    key,
    elim (puts key) [
      | inl mine ↦ absurd (let e : None ≡ Some m = sym bare ∙ alike x key mine.0 ∙ is in cc e)
      | inr other ↦ other.1 ∙ is
    ],
  )

  none : (key : K) → more key ≡ None → (k : ℕ) → k < bound + 1 → ¬ has k key
  none key is k low has-it = elim (puts key) [
    | inl mine ↦ let e : None ≡ Some (length groups) = sym is ∙ mine.1 in cc e
    | inr other ↦ elim (cases_eq k bound) [
      | inl same ↦ other.0 (keys.one bound x key here (subst (λ i. has i key) same has-it))
      | inr below ↦ h.none key (sym other.1 ∙ is) k (omega (arith, low, below)) has-it
    ]
  ]

  found : (key : K) (m : ℕ) → more key ≡ Some m → (ns : List ℕ) × (slice_get (groups ++ (bound ∷ []) ∷ []) m ≡ Some ns) × (0 < length ns) × IsPlaces (λ k. has k key) (bound + 1) ns
  found key m is = elim (puts key) [
    | inl mine ↦
        let e : m ≡ length groups = same_Some m (length groups) (sym is ∙ mine.1) in (
          bound ∷ [],
          subst (λ i. slice_get (groups ++ (bound ∷ []) ∷ []) i ≡ Some (bound ∷ [])) (sym e) (get-last groups (bound ∷ [])),
          omega arith,
          places-put (λ k. has k key) bound (bound + 1) [] (bound ∷ []) (no-places (λ k. has k key) bound (h.none key (sym (alike x key mine.0) ∙ bare)))
              (keys.same bound x key mine.0 here) refl refl,
        )
    | inr other ↦
        let old = h.found key m (sym other.1 ∙ is) in (
          old.0,
          get-before groups (bound ∷ []) old.0 m old.1,
          old.2,
          places-pass (λ k. has k key) bound (bound + 1) old.0 old.3 (λ has-it. other.0 (keys.one bound x key here has-it)) refl,
        )
  ]

-- ---- groups

-- no place is below 0
pub groups-none : {K : Type 0} (cmp : K → K → Ordering) (has : ℕ → K → Type 0) (g : GroupedData K) → g.numbers ≡ [] → g.groups ≡ [] → AreGroups cmp has 0 g
groups-none cmp has g bare empty = rw empty (record {
  found = λ key n is. absurd (let e : None ≡ Some n = sym (ap (λ ns. lookup (is_at (cmp key)) ns) bare) ∙ is in cc e);
  none = λ key is k low. absurd (omega (arith, low));
  named = λ n places is. absurd (cc is);
  in_order = λ i j d lt low. absurd (omega (arith, low));
})

-- the place at the bound is put by its key
pub groups-put : {K : Type 0} (cmp : K → K → Ordering) (has : ℕ → K → Type 0) (bound : ℕ) (key : K) (old new : GroupedData K) → IsTotalOrder cmp → AreKeys cmp has
    → has bound key → HasPutByKey cmp old new key bound → AreGroups cmp has bound old → AreGroups cmp has (bound + 1) new
groups-put {K} cmp has bound key old new o keys here put h = elim (put-cases cmp old new key bound put) [
  | inl (bare, begun) ↦
      group-begun cmp has bound key (group_number cmp old) (group_number cmp new) old.groups new.groups keys (equal-number cmp o old) (keys.one bound key key here here)
      here bare (begun-number cmp old new key bound begun) begun.groups h
  | inr (n, is, grown) ↦
      let numbers : group_number cmp old ≡ group_number cmp new = λ i k. lookup (is_at (cmp k)) (sym grown.numbers i) in
      let after : HaveGrouped has (bound + 1) (group_number cmp old) (set old.groups n (grown.places ++ bound ∷ [])) =
      group-grown cmp has bound key (group_number cmp old) old.groups n grown.places (grown.places ++ bound ∷ []) keys (equal-number cmp o old) here is grown.at refl h in
      subst (λ gs. HaveGrouped has (bound + 1) (group_number cmp new) gs) (sym grown.groups)
      (subst (λ f. HaveGrouped has (bound + 1) f (set old.groups n (grown.places ++ bound ∷ []))) numbers after)
]
