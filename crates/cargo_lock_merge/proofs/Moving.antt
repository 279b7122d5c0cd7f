-- The references that a merge moved, in the order of the packages.
use Rattle.std.proofs.Common.{◌≡◌, ◌≢◌, ◌⊎◌, ◌<◌, ◌+◌, ◌++◌, ◌∷◌, [], inl, inr, ℕ, All, List, Option, Some, None, get_or, length, map, slice_get, take, refl, sym, ap, subst, ◌∙◌, arith}
use Rattle.std.specs.Bool.{Decides}
use Rattle.std.specs.Prelude.{is_some}
use Rattle.std.specs.List.{AllPairs, Contains, flat_map}
use Rattle.std.specs.List.Sorted.{IsPermutation, IsSorted}
use Rattle.std.proofs.lemmas.Bool.{cases_order}
use Rattle.std.proofs.lemmas.List.{flat_map_more, take_more}
use Rattle.std.proofs.lemmas.List.Elements.{All-cons, Contains-get_or, All-contains}
use Rattle.std.proofs.lemmas.List.Sorted.{All-permutation, Contains-permutation}
use Rattle.std.proofs.lemmas.Option.{slice_get_within}
use Rattle.std.proofs.lemmas.Simd.{map-map}
use Rattle.cargo_lock_parts.specs.Identity.{HasNameAndVersion, Identity, PackageData, identity_of}
use Rattle.cargo_lock_graph.specs.Targets.{HoldsOf, IsLastBelow}
use Rattle.cargo_lock_merge_core.specs.declared.moved.Moved as merging
use Rattle.cargo_lock_merge_core.specs.Moved.{AreMoved, IsMoved, IsPairBefore, places_of_moved}
use Rattle.cargo_lock_merge_core.specs.Placed.{PlacedData}
use Rattle.lists.proofs.Members.{in-map}
use Rattle.cargo_lock_merge_core.proofs.Permuting.{map-permuted, pairs-permuted}
use Rattle.cargo_lock_merge.specs.declared.moved.Moved.{Moved}
use Rattle.cargo_lock_merge.specs.declared.moved.Named.{Named}
use Rattle.cargo_lock_merge.specs.Order.{moved_order}
use Rattle.cargo_lock_merge.specs.Moved.{AreMarkedMoved, AreMovedReferences, AreNamedMoved, HasNamesake, IsShownAmong, moved_numbers}

before-apart : (a b : ℕ × ℕ) → IsPairBefore a b → a ≢ b
before-apart a b (inl less) e = let f = ap (λ (p : ℕ × ℕ). p.0) e in omega (arith, less, f)
before-apart a b (inr (same, less)) e = let f = ap (λ (p : ℕ × ℕ). p.1) e in omega (arith, less, f)

-- each once, in another order
pub are-moved : (o t m : List (PlacedData ℕ)) (packages : List PackageData) (old new : List merging.Moved) (all : List Moved) → AreMoved o t m old → IsPermutation old new → map (λ (r : Moved). r.found) all ≡ new → IsSorted moved_order all → All (IsShownAmong packages) all
    → AreMovedReferences o t m packages all
are-moved o t m packages old new all h perm same sorted shown = record {
  each = from (λ (r : merging.Moved). (x : PlacedData ℕ) × (y : PlacedData ℕ) × IsMoved o t m x y r) h.each;
  all_there = λ x y moved. subst (λ (zs : List (ℕ × ℕ)). Contains zs (x.place, y.place)) places
      (Contains-permutation (map places_of_moved old) (map places_of_moved new) (x.place, y.place) (map-permuted places_of_moved old new perm) (h.all_there x y moved));
  once = subst (AllPairs (λ a b. a ≢ b)) places
      (pairs-permuted (λ a b. a ≢ b) (λ a b apart e. apart (sym e)) (map places_of_moved old) (map places_of_moved new) (map-permuted places_of_moved old new perm)
      (λ i j d less low. before-apart _ _ (h.order i j d less low)));
  order = sorted;
  shown = shown;
}
  where
    places : map places_of_moved new ≡ map moved_numbers all
    places = ap (map places_of_moved) (sym same) ∙ map-map places_of_moved (λ (r : Moved). r.found) all

    from : (P : merging.Moved → Type 0) → All P old → All (λ (r : Moved). P r.found) all
    from P each k d low =
        let r : Moved = get_or all k d in
        All-contains P new r.found (All-permutation P old new perm each)
        (subst (λ (zs : List merging.Moved). Contains zs r.found) same (in-map (λ (w : Moved). w.found) all r (Contains-get_or all k d low)))

-- what is marked of named references
pub are-marked : (packages : List PackageData) (found : List merging.Moved) (ns : List Named) (all : List Moved) → AreNamedMoved found ns → AreMarkedMoved packages ns all
    → (map (λ (r : Moved). r.found) all ≡ found) × All (IsShownAmong packages) all
are-marked packages [] [] [] named marked = (refl, λ k d low. absurd (omega (arith, low)))
are-marked packages [] [] (r ∷ rs) named marked = absurd marked
are-marked packages [] (n ∷ ns) all named marked = absurd named
are-marked packages (f ∷ fs) [] all named marked = absurd named
are-marked packages (f ∷ fs) (n ∷ ns) [] named marked = absurd marked
are-marked packages (f ∷ fs) (n ∷ ns) (r ∷ rs) named marked =
    let rest = are-marked packages fs ns rs named.1 marked.1 in
    let found : r.found ≡ f = marked.0.same ∙ named.0.same in
    let from : n.from ≡ identity_of r.found.merged.from.now = named.0.from ∙ ap (λ (w : merging.Moved). identity_of w.merged.from.now) (sym found) in
    let to : n.to ≡ identity_of r.found.merged.to.now = named.0.to ∙ ap (λ (w : merging.Moved). identity_of w.merged.to.now) (sym found) in (
      (λ i. found i ∷ rest.0 i),
      All-cons (IsShownAmong packages) r rs
          (subst (λ (i : Identity). Decides r.with_sources (HasNamesake packages i ⊎ HasNamesake packages (identity_of r.found.merged.to.now))) from
          (subst (λ (i : Identity). Decides r.with_sources (HasNamesake packages n.from ⊎ HasNamesake packages i)) to marked.0.shown))
          rest.1,
    )

-- ---- namesakes

named-same : (i : Identity) (p q : PackageData) → HasNameAndVersion i p → HasNameAndVersion i q → HasNameAndVersion (identity_of p) q
named-same i p q h k = record { name = sym h.name ∙ k.name; version = sym h.version ∙ k.version }

module _ (packages : List PackageData) (i : Identity) where
  -- no package of these is named so
  pub none-named : IsLastBelow (HoldsOf (HasNameAndVersion i) packages) (length packages) None → ¬ HasNamesake packages i
  none-named none (j, k, less, hj, hk) = none k (slice_get_within packages k hk.0 hk.1) hk

  module _ (at : ℕ) (p : PackageData) (here : slice_get packages at ≡ Some p) (named : HasNameAndVersion i p)
      (later : (k : ℕ) → at < k → k < length packages → ¬ HoldsOf (HasNameAndVersion i) packages k) where
    from-p : (k : ℕ) → HoldsOf (HasNameAndVersion (identity_of p)) packages k → HoldsOf (HasNameAndVersion i) packages k
    from-p k (q, there, other) = (q, there, record { name = named.name ∙ other.name; version = named.version ∙ other.version })

    to-p : (k : ℕ) → HoldsOf (HasNameAndVersion i) packages k → HoldsOf (HasNameAndVersion (identity_of p)) packages k
    to-p k (q, there, other) = (q, there, named-same i p q named other)

    pub namesake : (o : Option ℕ) → IsLastBelow (HoldsOf (HasNameAndVersion (identity_of p)) packages) at o → Decides (is_some o) (HasNamesake packages i)
    namesake None none = (
      λ e. absurd cc,
      λ (j, k, less, hj, hk). absurd (elim (cases_order k at) [
        | inl same ↦ none j (omega (arith, less, same)) (to-p j hj)
        | inr other ↦ elim other [ inl low ↦ none j (omega (arith, less, low)) (to-p j hj) | inr high ↦ later k high (slice_get_within packages k hk.0 hk.1) hk ]
      ]),
    )
    namesake (Some j) some = (λ e. (j, at, some.0, from-p j some.1, (p, here, named)), λ h. refl)

-- ---- lines

-- after the lines of the references before it, that of the next one
pub lines-more : {X : Type 0} (f : X → List ℕ) (xs : List X) (i : ℕ) (x : X) (a b line : List ℕ)
    → i < length xs → x ≡ get_or xs i x → a ≡ flat_map (λ y. f y ++ 10 ∷ []) (take i xs)
    → line ≡ f x ++ 10 ∷ [] → b ≡ a ++ line → b ≡ flat_map (λ y. f y ++ 10 ∷ []) (take (i + 1) xs)
lines-more {X = X} f xs i x a b line within is before text after =
    let ended : X → List ℕ = λ y. f y ++ 10 ∷ [] in
    let item : take (i + 1) xs ≡ take i xs ++ x ∷ [] = take_more xs i x within ∙ ap (λ (y : X). take i xs ++ y ∷ []) (sym is) in
    let more : a ++ line ≡ flat_map ended (take i xs) ++ ended x = rw (before, text) refl in
    after ∙ more ∙ flat_map_more ended [] (take i xs) x ∙ ap (flat_map ended) (sym item)
