-- The packages of a merge, as a lockfile has them.
use Rattle.std.proofs.Common.{◌≡◌, ◌<◌, ◌+◌, ◌↔◌, ◌⊎◌, ◌++◌, inl, inr, ℕ, zero, suc, List, [], ◌∷◌, get_or, length, map, set, take, refl, sym, ap, subst, ◌∙◌, arith}
use Rattle.std.specs.List.{AllZip, Contains, swap}
use Rattle.std.specs.List.Sorted.{IsPermutation, IsStrictlyIncreasing}
use Rattle.std.proofs.lemmas.List.{take_more}
use Rattle.std.proofs.lemmas.List.Elements.{Contains-append_left, Contains-push, Contains-push_cases}
use Rattle.std.proofs.lemmas.List.Sorted.{IsPermutation-keeps, IsPermutation-refl, IsPermutation-swap, IsPermutation-trans}
use Rattle.std.proofs.lemmas.Slice.Zip.{AllZip-long}
use Rattle.cargo_lock_parts.specs.Identity.{Identity, PackageData, identity_of}
use Rattle.cargo_lock_merge_core.specs.declared.merged.Merged.{Merged}
use Rattle.cargo_lock_merge_core.specs.Assembled.{IsIdentityAt}
use Rattle.cargo_lock_merge_core.specs.Merged.{merged_data}
use Rattle.cargo_lock_merge_core.specs.Moved.{IsPackageAt}
use Rattle.cargo_lock_merge_core.specs.Placed.{HasAt, PlacedData}
use Rattle.lists.proofs.Members.{in-map, map-in}
use Rattle.cargo_lock_merge_core.proofs.Moving.{merged-same}
use Rattle.cargo_lock_merge_core.proofs.Once.{one-at}
use Rattle.cargo_lock_merge_core.proofs.Planning.{map-push}
use Rattle.cargo_lock_graph.proofs.Zipped.{zip-push}
use Rattle.cargo_lock_merge_core.specs.Kept.{merged_places}

-- no merged package is at a place that is none of theirs
pub none-at : (ms : List Merged) (n : ℕ) → ¬ Contains (merged_places ms) n → (y : PlacedData ℕ) → ¬ HasAt (map merged_data ms) n y
none-at ms n none y at =
    let (m, among, is) = map-in merged_data ms y at.0 in
    none (subst (λ k. Contains (merged_places ms) k) (ap (λ (z : PlacedData ℕ). z.place) is ∙ at.1) (in-map (λ (m : Merged). m.place) ms m among))

-- the identity of the package of a side is that of the merged one at the place
pub identity-at : (ms : List Merged) (n : ℕ) (p : PackageData) (i : Identity) → IsPackageAt ms n p → i ≡ identity_of p → IsIdentityAt (map merged_data ms) n i
identity-at ms n p i (m, among, here, is) same = (merged_data m, (in-map merged_data ms m among, here), same ∙ ap identity_of is)

-- one package is at a place
pub only-at : (ms : List Merged) (n : ℕ) (i j : Identity) → IsStrictlyIncreasing (merged_places ms) → IsIdentityAt (map merged_data ms) n i → IsIdentityAt (map merged_data ms) n j → i ≡ j
only-at ms n i j up (x, at, is) (y, at', is') =
    is ∙ ap (λ (z : PlacedData ℕ). identity_of z.content)
    (one-at (map merged_data ms) (subst (λ (ns : List ℕ). IsStrictlyIncreasing ns) (sym (merged-same ms)) up) x y at.0 at'.0 (at.1 ∙ sym at'.1)) ∙ sym is'

-- one more place that is looked up
pub looked-up : (m : List (PlacedData ℕ)) (ns : List ℕ) (k n : ℕ) (old new : List Identity) (found : Identity) → k < length ns → n ≡ get_or ns k n
    → ((i : Identity) → Contains old i ↔ ((j : ℕ) × Contains (take k ns) j × IsIdentityAt m j i))
    → ((i : Identity) → IsIdentityAt m n i → i ≡ found) → IsIdentityAt m n found → new ≡ old ++ found ∷ []
    → (i : Identity) → Contains new i ↔ ((j : ℕ) × Contains (take (k + 1) ns) j × IsIdentityAt m j i)
looked-up m ns k n old new found low is so-far only at grows i = (
  λ h. elim (Contains-push_cases old found i (subst (λ (xs : List Identity). Contains xs i) grows h)) [
    | inl before ↦ let r = (so-far i).0 before in (r.0, more r.0 (inl r.1), r.2)
    | inr last ↦ (n, more n (inr refl), subst (IsIdentityAt m n) last at)
  ],
  λ h. subst (λ (xs : List Identity). Contains xs i) (sym grows) (elim (fewer h.0 h.1) [
    | inl before ↦ Contains-append_left old (found ∷ []) i ((so-far i).1 (h.0, before, h.2))
    | inr last ↦ subst (λ (j : Identity). Contains (old ++ found ∷ []) j) (sym (only i (subst (λ j. IsIdentityAt m j i) (sym last) h.2))) (Contains-push old found)
  ]),
)
  where
    grown : take (k + 1) ns ≡ take k ns ++ n ∷ []
    grown = take_more ns k n low ∙ ap (λ j. take k ns ++ j ∷ []) (sym is)

    more : (j : ℕ) → Contains (take k ns) j ⊎ (n ≡ j) → Contains (take (k + 1) ns) j
    more j (inl before) = subst (λ (xs : List ℕ). Contains xs j) (sym grown) (Contains-append_left (take k ns) (n ∷ []) j before)
    more j (inr same) = subst (λ (xs : List ℕ). Contains xs j) (sym grown) (subst (λ l. Contains (take k ns ++ n ∷ []) l) same (Contains-push (take k ns) n))

    fewer : (j : ℕ) → Contains (take (k + 1) ns) j → Contains (take k ns) j ⊎ (n ≡ j)
    fewer j h = Contains-push_cases (take k ns) n j (subst (λ (xs : List ℕ). Contains xs j) grown h)

-- and one at which no package is
pub passed-by : (m : List (PlacedData ℕ)) (ns : List ℕ) (k n : ℕ) (old : List Identity) → k < length ns → n ≡ get_or ns k n
    → ((i : Identity) → Contains old i ↔ ((j : ℕ) × Contains (take k ns) j × IsIdentityAt m j i))
    → ((y : PlacedData ℕ) → ¬ HasAt m n y)
    → (i : Identity) → Contains old i ↔ ((j : ℕ) × Contains (take (k + 1) ns) j × IsIdentityAt m j i)
passed-by m ns k n old low is so-far none i = (
  λ h. let r = (so-far i).0 h in (r.0, subst (λ (xs : List ℕ). Contains xs r.0) (sym grown) (Contains-append_left (take k ns) (n ∷ []) r.0 r.1), r.2),
  λ h. elim (Contains-push_cases (take k ns) n h.0 (subst (λ (xs : List ℕ). Contains xs h.0) grown h.1)) [
    | inl before ↦ (so-far i).1 (h.0, before, h.2)
    | inr last ↦ absurd (none h.2.0 (subst (λ j. HasAt m j h.2.0) (sym last) h.2.1))
  ],
)
  where
    grown : take (k + 1) ns ≡ take k ns ++ n ∷ []
    grown = take_more ns k n low ∙ ap (λ j. take k ns ++ j ∷ []) (sym is)

-- one more package is assembled
pub zip-one-more : (R : PlacedData ℕ → PackageData → Type 0) (ms : List Merged) (k : ℕ) (m : Merged) (old new : List PackageData) (p : PackageData) → k < length ms → m ≡ get_or ms k m
    → AllZip R (map merged_data (take k ms)) old → R (merged_data m) p → new ≡ old ++ p ∷ [] → AllZip R (map merged_data (take (k + 1) ms)) new
zip-one-more R ms k m old new p low is zip one grows =
    subst (λ (ps : List PackageData). AllZip R (map merged_data (take (k + 1) ms)) ps) (sym grows)
    (subst (λ (xs : List (PlacedData ℕ)). AllZip R xs (old ++ p ∷ []))
    (sym (ap (map merged_data) (take_more ms k m low ∙ ap (λ (q : Merged). take k ms ++ q ∷ []) (sym is)) ∙ map-push merged_data (take k ms) m))
    (zip-push R (map merged_data (take k ms)) old (merged_data m) p zip one))

-- ---- two lists side by side, in another order

zip-set : {X Y : Type 0} (R : X → Y → Type 0) (xs : List X) (ys : List Y) (i : ℕ) (x : X) (y : Y) → AllZip R xs ys → R x y → AllZip R (set xs i x) (set ys i y)
zip-set R [] [] i x y zip one = tt
zip-set R [] (b ∷ ys) i x y zip one = absurd zip
zip-set R (a ∷ xs) [] i x y zip one = absurd zip
zip-set R (a ∷ xs) (b ∷ ys) zero x y zip one = (one, zip.1)
zip-set R (a ∷ xs) (b ∷ ys) (suc i) x y zip one = (zip.0, zip-set R xs ys i x y zip.1 one)

pub zip-get : {X Y : Type 0} (R : X → Y → Type 0) (xs : List X) (ys : List Y) (i : ℕ) (x : X) (y : Y) → AllZip R xs ys → i < length ys → R (get_or xs i x) (get_or ys i y)
zip-get R [] [] i x y zip low = absurd (omega (arith, low))
zip-get R [] (b ∷ ys) i x y zip low = absurd zip
zip-get R (a ∷ xs) [] i x y zip low = absurd zip
zip-get R (a ∷ xs) (b ∷ ys) zero x y zip low = zip.0
zip-get R (a ∷ xs) (b ∷ ys) (suc i) x y zip low = zip-get R xs ys i x y zip.1 (omega (arith, low))

zip-swap : {X Y : Type 0} (R : X → Y → Type 0) (xs : List X) (ys : List Y) (i j : ℕ) → AllZip R xs ys → i < length ys → j < length ys → AllZip R (swap xs i j) (swap ys i j)
zip-swap R [] [] i j zip low high = tt
zip-swap R [] (b ∷ ys) i j zip low high = absurd zip
zip-swap R (a ∷ xs) [] i j zip low high = absurd zip
zip-swap R (a ∷ xs) (b ∷ ys) i j zip low high =
    zip-set R (set (a ∷ xs) i (get_or (a ∷ xs) j a)) (set (b ∷ ys) i (get_or (b ∷ ys) j b)) j (get_or (a ∷ xs) i a) (get_or (b ∷ ys) i b)
    (zip-set R (a ∷ xs) (b ∷ ys) i (get_or (a ∷ xs) j a) (get_or (b ∷ ys) j b) zip (zip-get R (a ∷ xs) (b ∷ ys) j a b zip high))
    (zip-get R (a ∷ xs) (b ∷ ys) i a b zip low)

-- what stands side by side with the elements of a list does so with them in another order
pub zip-permuted : {X Y : Type 0} (R : X → Y → Type 0) (xs : List X) (ys zs : List Y) → AllZip R xs ys → IsPermutation ys zs → (ws : List X) × IsPermutation xs ws × AllZip R ws zs
zip-permuted {X = X} {Y = Y} R xs ys zs zip moved =
    IsPermutation-keeps ys (λ (l : List Y). (ws : List X) × IsPermutation xs ws × AllZip R ws l) (xs, IsPermutation-refl xs, zip)
    (λ l i j low high h.
    let long : length l ≡ length h.0 = AllZip-long R h.0 l h.2 in (
      swap h.0 i j,
      IsPermutation-trans xs h.0 (swap h.0 i j) h.1 (IsPermutation-swap h.0 (swap h.0 i j) i j (omega (arith, low, long)) (omega (arith, high, long)) refl),
      zip-swap R h.0 l i j h.2 low high,
    ))
    zs moved
