-- The references that a merge moved.
use Rattle.std.proofs.Common.{◌≡◌, ◌⊎◌, ◌↔◌, ◌<◌, ◌≤◌, ◌+◌, ◌++◌, ◌∷◌, [], inl, inr, ℕ, All, List, length, get_or, map, slice_get, take, Option, Some, None, refl, sym, ap, subst, ◌∙◌, arith}
use Rattle.std.specs.List.{AllPairs, Contains}
use Rattle.std.specs.List.Sorted.{IsStrictlyIncreasing}
use Rattle.std.proofs.lemmas.List.{get_or-map, length-map, take_all, take_more, map-append}
use Rattle.std.proofs.lemmas.List.Elements.{All-append, All-push, Contains-append_left, Contains-append_right, Contains-get_or, Contains-push_cases, All-contains}
use Rattle.std.proofs.lemmas.Option.{get_or_from_slice_get, slice_get_within}
use Rattle.cargo_lock_parts.specs.Identity.{Identity, PackageData, identity_key, identity_of}
use Rattle.lists.proofs.Pairs.{pairs-append}
use Rattle.cargo_lock_merge_core.specs.declared.merged.Merged.{Merged}
use Rattle.cargo_lock_merge_core.specs.declared.moved.Moved.{Moved}
use Rattle.cargo_lock_merge_core.specs.declared.moved.Reference.{Reference}
use Rattle.cargo_lock_merge_core.specs.declared.placed.Placed.{Placed}
use Rattle.cargo_lock_merge_core.specs.Kept.{AreInPlace, merged_places}
use Rattle.cargo_lock_merge_core.specs.Merge.{HasReference, IsMovedReference}
use Rattle.cargo_lock_merge_core.specs.Merged.{merged_data}
use Rattle.cargo_lock_merge_core.specs.Moved.{AreListedPackages, AreMoved, AreMovedFrom, IsMoved, IsMovedBeside, IsMovedFrom, IsMovedTo, IsPairBefore, IsReferenceAt, IsReferenceOf, IsSameReference, places_of_moved, sides}
use Rattle.cargo_lock_merge_core.specs.Numbered.{HasAscending, IsInOrder, all_data, place_numbers, placed_data}
use Rattle.cargo_lock_merge_core.specs.Placed.{HasAt, IsAt, PlacedData, key}
use Rattle.cargo_lock_merge_core.proofs.Ascending.{far-below}
use Rattle.cargo_lock_merge_core.proofs.Finding.{length-places, place-among, place-at}
use Rattle.cargo_lock_merge_core.proofs.Kept.{AreKept, kept-end, kept-pass, kept-push}
use Rattle.lists.proofs.Members.{in-map, map-in}
use Rattle.cargo_lock_merge_core.proofs.Once.{one-at}
use Rattle.cargo_lock_merge_core.proofs.Planning.{map-push}

-- ---- packages at places

pub found-at : (xs : List Placed) (n k : ℕ) (d : Placed) → slice_get (place_numbers (all_data xs)) k ≡ Some n → HasAt (all_data xs) n (placed_data (get_or xs k d))
found-at xs n k d at =
    let long = length-places xs in
    let low = slice_get_within (place_numbers (all_data xs)) k n at in
    let low' : k < length xs = omega (arith, low, long) in
    (in-map placed_data xs (get_or xs k d) (Contains-get_or xs k d low'), sym (place-at xs k d low') ∙ get_or_from_slice_get (place_numbers (all_data xs)) k n 0 at)

pub none-at : (xs : List (PlacedData ℕ)) (n : ℕ) → ¬ Contains (place_numbers xs) n → (x : PlacedData ℕ) → ¬ HasAt xs n x
none-at xs n none x h = none (subst (λ k. Contains (place_numbers xs) k) h.1 (place-among xs x h.0))

pub ascends-at : (xs : List (PlacedData ℕ)) (n : ℕ) (o : Option (PlacedData ℕ)) → AreListedPackages xs → IsAt xs n o → HasAscending o
ascends-at xs n None listed at = tt
ascends-at xs n (Some x) listed at = All-contains (λ (z : PlacedData ℕ). IsStrictlyIncreasing z.dependencies) xs x listed.each at.0

-- the places of merged packages
pub merged-same : (ms : List Merged) → place_numbers (map merged_data ms) ≡ merged_places ms
merged-same [] = refl
merged-same (m ∷ ms) = ap (λ (ns : List ℕ). m.place ∷ ns) (merged-same ms)

merged-order : (ms : List Merged) → AreInPlace ms → IsInOrder (map merged_data ms)
merged-order ms h = subst (λ (ns : List ℕ). IsStrictlyIncreasing ns) (sym (merged-same ms)) h.order

-- ---- references

module _ (xs : List (PlacedData ℕ)) (up : IsInOrder xs) (x y : PlacedData ℕ) (r : Reference) (from : identity_of r.from.now ≡ identity_of x.content) (to : identity_of r.to.now ≡ identity_of y.content) where
  same-to : (u v : Option (PlacedData ℕ)) (s : Option Reference) → IsAt xs x.place u → IsAt xs y.place v → IsReferenceOf u v y.place s → IsSameReference r s → HasReference xs x y
  same-to (Some u) (Some v) (Some s) au av is (same, target) = record {
    from = u;
    from_at = au;
    same = elim same [
      | inl none ↦ inl (ap (λ (i : Identity). i.source) (sym from) ∙ none)
      | inr k ↦ inr (ap (λ (p : PackageData). identity_key (identity_of p)) (sym is.1) ∙ k ∙ ap identity_key from)
    ];
    depends = is.0;
    to = v;
    to_at = av;
    target = ap (λ (p : PackageData). identity_key (identity_of p)) (sym is.2) ∙ target ∙ ap identity_key to;
  }
  same-to (Some u) (Some v) None au av is same = absurd same
  same-to (Some u) None None au av is same = absurd same
  same-to (Some u) None (Some s) au av is same = absurd is
  same-to None None None au av is same = absurd same
  same-to None None (Some s) au av is same = absurd is
  same-to None (Some v) None au av is same = absurd same
  same-to None (Some v) (Some s) au av is same = absurd is

  same-from : (u v : Option (PlacedData ℕ)) (s : Option Reference) → IsAt xs x.place u → IsAt xs y.place v → IsReferenceOf u v y.place s → HasReference xs x y → IsSameReference r s
  same-from None v s au av is h = absurd (au h.from h.from_at)
  same-from (Some u) None s au av is h = absurd (av h.to h.to_at)
  same-from (Some u) (Some v) None au av is h =
      absurd (is (subst (λ (z : PlacedData ℕ). Contains z.dependencies y.place) (one-at xs up h.from u h.from_at.0 au.0 (h.from_at.1 ∙ sym au.1)) h.depends))
  same-from (Some u) (Some v) (Some s) au av is h =
      let eu : h.from ≡ u = one-at xs up h.from u h.from_at.0 au.0 (h.from_at.1 ∙ sym au.1) in
      let ev : h.to ≡ v = one-at xs up h.to v h.to_at.0 av.0 (h.to_at.1 ∙ sym av.1) in (
        elim h.same [
          | inl none ↦ inl (ap (λ (i : Identity). i.source) from ∙ none)
          | inr k ↦ inr (ap (λ (p : PackageData). identity_key (identity_of p)) is.1 ∙ ap (λ (z : PlacedData ℕ). key z) (sym eu) ∙ k ∙ ap identity_key (sym from))
        ],
        ap (λ (p : PackageData). identity_key (identity_of p)) is.2 ∙ ap (λ (z : PlacedData ℕ). key z) (sym ev) ∙ h.target ∙ ap identity_key (sym to),
      )

  pub is-reference : (s : Option Reference) → IsReferenceAt xs x.place y.place s → IsSameReference r s ↔ HasReference xs x y
  is-reference s (u, v, au, av, is) = (same-to u v s au av is, same-from u v s au av is)

-- ---- one reference

module _ (o t : List (PlacedData ℕ)) (uo : AreListedPackages o) (ut : AreListedPackages t) (ms : List Merged) (up : AreInPlace ms) (one : Merged) (among : Contains ms one) (q : ℕ) where
  module _ (to : Merged) (there : Contains ms to) (here : to.place ≡ q) (r : Reference) (fromis : r.from.now ≡ one.«package».now) (tois : r.to.now ≡ to.«package».now)
      (so st : Option Reference) (ours : IsReferenceAt o one.place q so) (theirs : IsReferenceAt t one.place q st) where
    same-ours : IsSameReference r so ↔ HasReference o (merged_data one) (merged_data to)
    same-ours = is-reference o uo.order (merged_data one) (merged_data to) r (ap identity_of fromis) (ap identity_of tois) so (subst (λ n. IsReferenceAt o one.place n so) (sym here) ours)

    same-theirs : IsSameReference r st ↔ HasReference t (merged_data one) (merged_data to)
    same-theirs = is-reference t ut.order (merged_data one) (merged_data to) r (ap identity_of fromis) (ap identity_of tois) st (subst (λ n. IsReferenceAt t one.place n st) (sym here) theirs)

    pub found-moved : (m : Moved) → m ≡ record { from = one.place; to = q; merged = r; ours = so; theirs = st } → Contains one.dependencies.items q → IsMovedBeside r so st
        → IsMovedFrom o t (map merged_data ms) (merged_data one) q m
    found-moved m is depends (sourced, apart, apart') =
        subst (IsMovedFrom o t (map merged_data ms) (merged_data one) q) (sym is) (
          merged_data to,
          here,
          record {
            moved = record {
              from = in-map merged_data ms one among;
              to = in-map merged_data ms to there;
              depends = subst (λ n. Contains one.dependencies.items n) (sym here) depends;
              sourced = λ e. sourced (ap (λ (p : PackageData). p.source) tois ∙ e);
              ours = λ h. apart (same-ours.1 h);
              theirs = λ h. apart' (same-theirs.1 h);
            };
            from = refl;
            to = sym here;
            from_same = ap identity_of fromis;
            to_same = ap identity_of tois;
            ours = subst (λ n. IsReferenceAt o one.place n so) (sym here) ours;
            theirs = subst (λ n. IsReferenceAt t one.place n st) (sym here) theirs;
          },
        )

    pub not-moved : ¬ IsMovedBeside r so st → ¬ IsMovedTo o t (map merged_data ms) (merged_data one) q
    not-moved none (y, at, moved) =
        let same : y ≡ merged_data to = one-at (map merged_data ms) (merged-order ms up) y (merged_data to) moved.to (in-map merged_data ms to there) (at ∙ sym here) in
        none (
          λ e. moved.sourced (ap (λ (z : PlacedData ℕ). z.content.source) same ∙ ap (λ (p : PackageData). p.source) (sym tois) ∙ e),
          λ k. moved.ours (subst (λ (z : PlacedData ℕ). HasReference o (merged_data one) z) (sym same) (same-ours.0 k)),
          λ k. moved.theirs (subst (λ (z : PlacedData ℕ). HasReference t (merged_data one) z) (sym same) (same-theirs.0 k)),
        )

  pub none-moved : ¬ Contains (merged_places ms) q → ¬ IsMovedTo o t (map merged_data ms) (merged_data one) q
  none-moved none (y, at, moved) =
      none (subst (λ (ns : List ℕ). Contains ns q) (merged-same ms) (subst (λ n. Contains (place_numbers (map merged_data ms)) n) at (place-among (map merged_data ms) y moved.to)))

pub merged-at : (ms : List Merged) (n k : ℕ) (d : Merged) → slice_get (merged_places ms) k ≡ Some n → Contains ms (get_or ms k d) × ((get_or ms k d).place ≡ n)
merged-at ms n k d at =
    let place : Merged → ℕ = λ m. m.place in
    let long = length-map ms place in
    let low = slice_get_within (merged_places ms) k n at in
    let low' : k < length ms = omega (arith, low, long) in
    (Contains-get_or ms k d low', sym (get_or-map place ms k d n low') ∙ get_or_from_slice_get (merged_places ms) k n n at)

-- ---- those of one package

module _ (o t : List (PlacedData ℕ)) (ms : List Merged) (one : Merged) where
  abbrev pub MovedTo : ℕ → Type 0
  MovedTo = IsMovedTo o t (map merged_data ms) (merged_data one)

  abbrev pub IsFrom : Moved → Type 0
  IsFrom r = (q : ℕ) × IsMovedFrom o t (map merged_data ms) (merged_data one) q r

  -- those of the first dependencies
  pub record AreFirst (i : ℕ) (all : List Moved) : Type 0 where
    pub kept : AreKept MovedTo one.dependencies.items i (map (λ r. r.to) all)
    pub each : All IsFrom all

  pub first-push : (i : ℕ) (all : List Moved) (r : Moved) → AreFirst i all → IsStrictlyIncreasing one.dependencies.items → i < length one.dependencies.items
      → IsMovedFrom o t (map merged_data ms) (merged_data one) (get_or one.dependencies.items i 0) r → AreFirst (i + 1) (all ++ r ∷ [])
  first-push i all r f up low from =
      let ds = one.dependencies.items in
      let q : ℕ = get_or ds i 0 in
      let to : r.to ≡ q = from.2.to ∙ from.1 in
      let grown : map (λ (m : Moved). m.to) (all ++ r ∷ []) ≡ map (λ (m : Moved). m.to) all ++ q ∷ [] =
      map-push (λ (m : Moved). m.to) all r ∙ ap (λ (n : ℕ). map (λ (m : Moved). m.to) all ++ n ∷ []) to in
      record {
        kept = subst (AreKept MovedTo ds (i + 1)) (sym grown) (kept-push MovedTo ds i (map (λ (m : Moved). m.to) all) f.kept up low (from.0, from.1, from.2.moved));
        each = All-push IsFrom all r f.each (q, from);
      }

  pub first-pass : (i : ℕ) (all : List Moved) → AreFirst i all → IsStrictlyIncreasing one.dependencies.items → i < length one.dependencies.items
      → ¬ MovedTo (get_or one.dependencies.items i 0) → AreFirst (i + 1) all
  first-pass i all f up low none = record {
    kept = kept-pass MovedTo one.dependencies.items i (map (λ (m : Moved). m.to) all) f.kept up low none;
    each = f.each;
  }

  pub first-end : (i : ℕ) (all : List Moved) → AreFirst i all → length one.dependencies.items ≤ i → AreMovedFrom o t ms one all
  first-end i all f end = record {
    each = f.each;
    all_there = λ q h. (kept-end MovedTo one.dependencies.items i (map (λ (m : Moved). m.to) all) f.kept end (λ n k. subst (λ m. Contains one.dependencies.items m) k.1 k.2.depends) q).1 h;
    order = f.kept.ascending;
  }

  first-of : {X : Type 0} (xs : List X) (j : ℕ) → j < length xs → X
  first-of [] j low = absurd (omega (arith, low))
  first-of (x ∷ xs) j low = x

  -- their places are in order
  pub part-order : (all : List Moved) → AreMovedFrom o t ms one all → AllPairs IsPairBefore (map places_of_moved all)
  part-order all h i j d less low =
      let long = length-map all places_of_moved in
      let long' = length-map all (λ (m : Moved). m.to) in
      let low' : j < length all = omega (arith, low, long) in
      let before : i < length all = omega (arith, low', less) in
      let e : Moved = first-of all j low' in
      let x = get_or all i e in
      let y = get_or all j e in
      let ex : get_or (map places_of_moved all) i d ≡ places_of_moved x = get_or-map places_of_moved all i e d before in
      let ey : get_or (map places_of_moved all) j d ≡ places_of_moved y = get_or-map places_of_moved all j e d low' in
      let tx = get_or-map (λ (m : Moved). m.to) all i e 0 before in
      let ty = get_or-map (λ (m : Moved). m.to) all j e 0 low' in
      let up = far-below (map (λ (m : Moved). m.to) all) h.order i j less (omega (arith, low', long')) in
      let fx = (h.each i e before).1.2.from in
      let fy = (h.each j e low').1.2.from in
      subst (λ (a : ℕ × ℕ). IsPairBefore a (get_or (map places_of_moved all) j d)) (sym ex)
      (subst (λ (b : ℕ × ℕ). IsPairBefore (places_of_moved x) b) (sym ey) (inr (fx ∙ sym fy, omega (arith, up, tx, ty))))

-- ---- those of all packages

module _ (o t : List (PlacedData ℕ)) (ms : List Merged) where
  abbrev IsOne : Moved → Type 0
  IsOne r = (x : PlacedData ℕ) × (y : PlacedData ℕ) × IsMoved o t (map merged_data ms) x y r

  -- those of the first packages
  pub record AreMovedSoFar (k : ℕ) (all : List Moved) : Type 0 where
    pub each : All IsOne all
    pub there : (x y : PlacedData ℕ) → IsMovedReference (sides o t) (map merged_data ms) x y → Contains (map merged_data (take k ms)) x → Contains (map places_of_moved all) (x.place, y.place)
    pub order : AllPairs IsPairBefore (map places_of_moved all)
    pub below : All (λ r. (j : ℕ) × (j < k) × (r.from ≡ get_or (merged_places ms) j 0)) all

  from-one : (one : Merged) (r : Moved) → IsFrom o t ms one r → IsOne r
  from-one one r (q, (y, at, is)) = (merged_data one, y, is)

  pub moved-more : (k : ℕ) (one : Merged) (all part : List Moved) → AreMovedSoFar k all → AreInPlace ms → k < length ms → one ≡ get_or ms k one → AreMovedFrom o t ms one part
      → AreMovedSoFar (k + 1) (all ++ part)
  moved-more k one all part f up low is h =
      let place : Merged → ℕ = λ m. m.place in
      let long = length-map ms place in
      let here : get_or (merged_places ms) k 0 ≡ one.place = get_or-map place ms k one 0 low ∙ ap place (sym is) in
      let grown = map-append places_of_moved all part in
      record {
        each = All-append IsOne all part f.each (λ j d l. from-one one (get_or part j d) (h.each j d l));
        there = λ x y moved among. subst (λ (zs : List (ℕ × ℕ)). Contains zs (x.place, y.place)) (sym grown) (by x y moved (more x among));
        order = subst (AllPairs IsPairBefore) (sym grown) (pairs-append IsPairBefore (map places_of_moved all) (map places_of_moved part) f.order (part-order o t ms one part h) (across long here));
        below = All-append (λ r. (j : ℕ) × (j < k + 1) × (r.from ≡ get_or (merged_places ms) j 0)) all part
            (λ j d l. let b = f.below j d l in (b.0, (let less = b.1 in omega (arith, less)), b.2))
            (λ j d l. (k, omega arith, (h.each j d l).1.2.from ∙ sym here));
      }
    where
      more : (x : PlacedData ℕ) → Contains (map merged_data (take (k + 1) ms)) x → Contains (map merged_data (take k ms)) x ⊎ (merged_data one ≡ x)
      more x c =
          let e : take (k + 1) ms ≡ take k ms ++ one ∷ [] = take_more ms k one low ∙ ap (λ (m : Merged). take k ms ++ m ∷ []) (sym is) in
          Contains-push_cases (map merged_data (take k ms)) (merged_data one) x
          (subst (λ (zs : List (PlacedData ℕ)). Contains zs x) (ap (map merged_data) e ∙ map-push merged_data (take k ms) one) c)

      by : (x y : PlacedData ℕ) → IsMovedReference (sides o t) (map merged_data ms) x y → Contains (map merged_data (take k ms)) x ⊎ (merged_data one ≡ x)
          → Contains (map places_of_moved all ++ map places_of_moved part) (x.place, y.place)
      by x y moved (inl before) = Contains-append_left (map places_of_moved all) (map places_of_moved part) (x.place, y.place) (f.there x y moved before)
      by x y moved (inr same) =
          let moved' = subst (λ (z : PlacedData ℕ). IsMovedReference (sides o t) (map merged_data ms) z y) (sym same) moved in
          let (r, among, to) = map-in (λ (m : Moved). m.to) part y.place (h.all_there y.place (y, refl, moved')) in
          let from : r.from ≡ x.place = (All-contains (IsFrom o t ms one) part r h.each among).1.2.from ∙ ap (λ (z : PlacedData ℕ). z.place) same in
          Contains-append_right (map places_of_moved all) (map places_of_moved part) (x.place, y.place)
          (subst (λ (a : ℕ × ℕ). Contains (map places_of_moved part) a) (λ i. (from i, to i)) (in-map places_of_moved part r among))

      across : length (merged_places ms) ≡ length ms → get_or (merged_places ms) k 0 ≡ one.place → (a b : ℕ × ℕ) → Contains (map places_of_moved all) a → Contains (map places_of_moved part) b → IsPairBefore a b
      across long here a b ca cb =
          let (r, among, ea) = map-in places_of_moved all a ca in
          let (w, among', eb) = map-in places_of_moved part b cb in
          let (j, less, fa) = All-contains (λ (m : Moved). (j : ℕ) × (j < k) × (m.from ≡ get_or (merged_places ms) j 0)) all r f.below among in
          let fb : w.from ≡ one.place = (All-contains (IsFrom o t ms one) part w h.each among').1.2.from in
          let up' = far-below (merged_places ms) up.order j k less (omega (arith, low, long)) in
          subst (λ (z : ℕ × ℕ). IsPairBefore z b) ea (subst (λ (z : ℕ × ℕ). IsPairBefore (places_of_moved r) z) eb (inl (omega (arith, fa, fb, up', here))))

  pub moved-end : (k : ℕ) (all : List Moved) → AreMovedSoFar k all → length ms ≤ k → AreMoved o t (map merged_data ms) all
  moved-end k all f end =
      let e : take k ms ≡ ms = take_all k ms end in
      record {
        each = f.each;
        all_there = λ x y moved. f.there x y moved (subst (λ (zs : List Merged). Contains (map merged_data zs) x) (sym e) moved.from);
        order = f.order;
      }
