-- What a merge returns by numbers of places is what it returns by places.
use Rattle.std.proofs.Common.{◌≡◌, ◌≢◌, ◌∙◌, ◌↔◌, ℕ, List, [], ◌∷◌, Option, Some, ap, get_or, map, option_map, refl, subst, sym}
use Rattle.std.specs.List.{AllPairs, Contains}
use Rattle.std.proofs.lemmas.List.Elements.{Contains-get_or}
use Rattle.std.proofs.lemmas.Option.{same_Some}
use Rattle.std.proofs.lemmas.Simd.{map-map}
use Rattle.cargo_lock_parts.specs.Identity.{PackageData}
use Rattle.cargo_lock_merge_core.specs.declared.conflicts.Kind.{Kind}
use Rattle.cargo_lock_merge_core.specs.declared.conflicts.Kind.TheVariants.{Checksum, LostChecksum, Package, Replacement, Version}
use Rattle.cargo_lock_merge_core.specs.ByPlaces.{IsMovedBetween}
use Rattle.cargo_lock_merge_core.specs.Commits.{Lockfiles}
use Rattle.cargo_lock_merge_core.specs.declared.conflicts.Conflict as merging
use Rattle.cargo_lock_merge_core.specs.Assembled.{AreSides}
use Rattle.cargo_lock_merge_core.specs.Conflicts.{IsConflictAt, conflict_of}
use Rattle.cargo_lock_merge_core.specs.Lists.{IsNumber, place_at}
use Rattle.cargo_lock_merge_core.specs.Merge.{IsConflicting, MatterData, IsMatter, IsMovedReference, OfChecksum, OfLostChecksum, OfPackage, OfReplacement, OfVersion, Triple}
use Rattle.cargo_lock_merge_core.specs.Merge as merge
use Rattle.cargo_lock_merge_core.specs.Moved.{IsMoved}
use Rattle.cargo_lock_merge_core.specs.Placed.{PlacedData}
use Rattle.cargo_lock_merge_core.specs.Places.{Place}
use Rattle.cargo_lock_merge_core.specs.Renaming.{rename_matter, rename_triple}
use Rattle.cargo_lock_merge_core.proofs.Assembling.{IsAssembledMerge, assembled-at, used-number}
use Rattle.cargo_lock_merge_core.proofs.Backwards.{conflict-one, conflicts-of-places, no-merge-of-places}
use Rattle.cargo_lock_merge_core.proofs.ByPlaces.{commits-placed, conflict-placed, merged-number, moved-back, moved-placed, pairs-mapped}
use Rattle.lists.proofs.Members.{first-in, in-map, later-in, map-in}
use Rattle.cargo_lock_merge_core.proofs.Slotting.{numbers-one}
use Rattle.cargo_lock_merge.specs.declared.conflict.Conflict.{Conflict}
use Rattle.cargo_lock_merge.specs.declared.conflict.Conflict.TheVariants.{AtPlace, OfSource}
use Rattle.cargo_lock_merge.specs.declared.lockfiles.LockfileMerge.{LockfileMerge}
use Rattle.cargo_lock_merge.specs.declared.lockfiles.LockfileMerge.TheVariants as lockfiles
use Rattle.cargo_lock_merge.specs.declared.moved.Moved.{Moved}
use Rattle.cargo_lock_merge.specs.declared.notice.Remarks.{Remarks}
use Rattle.cargo_lock_merge.specs.Notice.{AreNotices}
use Rattle.cargo_lock_merge.specs.declared.outcome.Outcome.{Outcome}
use Rattle.cargo_lock_merge.specs.declared.outcome.Outcome.TheVariants.{Conflicts, Merged}
use Rattle.cargo_lock_merge.specs.ByPlaces.{AreConflictsByPlaces, AreConflictsIfAny, AreMovedByPlaces, AreNoticesByPlaces, FindsByPlaces, HasSubjectAt, HasSubjectIn, IsMovedIn, MergesByPlaces, moved_places, subject_in, subject_of_place}
use Rattle.cargo_lock_merge.specs.Conflict.{HasSubject, conflict_subject, subject_at}
use Rattle.cargo_lock_merge.specs.MergedLockfiles.{AreConflictingPackages, LockfileTriple, MergesTo, packages_of}
use Rattle.cargo_lock_merge.specs.Moved.{moved_numbers}
use Rattle.cargo_lock_merge.specs.Outcome.{AreInConflictAbout, FindsMerge, IsMergeFound}

-- lists of equal elements
maps-same : {X Y : Type 0} (f g : X → Y) (xs : List X) → ((x : X) → Contains xs x → f x ≡ g x) → map f xs ≡ map g xs
maps-same f g [] same = refl
maps-same f g (x ∷ xs) same =
    let first = same x (first-in x xs) in
    let others = maps-same f g xs (λ y among. same y (later-in x xs y among)) in
    λ i. first i ∷ others i

-- ---- renamed places

renamed-of : (places : List Place) (kind : Kind) (n : ℕ) → conflict_of kind (place_at places n) ≡ rename_matter (place_at places) (conflict_of kind n)
renamed-of places Package n = refl
renamed-of places Checksum n = refl
renamed-of places Replacement n = refl
renamed-of places Version n = refl
renamed-of places LostChecksum n = refl

-- what is a conflict is one at each place
conflicting-same : (places : List Place) (d : MatterData ℕ) → IsConflicting d ↔ IsConflicting (rename_matter (place_at places) d)
conflicting-same places (OfPackage p) = (λ k. k, λ k. k)
conflicting-same places (OfChecksum p) = (λ k. k, λ k. k)
conflicting-same places (OfReplacement p) = (λ k. k, λ k. k)
conflicting-same places (merge.OfSource g) = (λ k. k, λ k. k)
conflicting-same places (OfVersion p) = (λ k. k, λ k. k)
conflicting-same places (OfLostChecksum p) = (λ k. k, λ k. k)

-- ---- conflicts

module _ (all : Lockfiles) (cs : List Conflict) (h : AreInConflictAbout all cs) where
  subject-placed : (c : Conflict) → HasSubject h.triple c → IsMatter h.triple (conflict_subject c)
      → (subject_in all c ≡ Some (rename_matter (place_at h.places) (conflict_subject c))) × HasSubjectIn all (rename_triple (place_at h.places) h.triple) c
  subject-placed (AtPlace c) has conflict =
      let (is, packages) = conflict-placed all h.places h.triple h.sides c.kind c has conflict in
      (ap (option_map (conflict_of c.kind)) is ∙ ap Some (renamed-of h.places c.kind c.place), (place_at h.places c.place, is, packages))
  subject-placed (OfSource c) has conflict = (refl, (commits-placed all h.places h.triple h.sides c has.0, has.1))

  subject-conflict : (c : Conflict) → Contains cs c → IsMatter h.triple (conflict_subject c)
  subject-conflict c among = ((h.conflicts.exact (conflict_subject c)).0 (in-map conflict_subject cs c among)).1

  has-subject : (c : Conflict) → Contains cs c → HasSubject h.triple c
  has-subject c (k, low, is) = subst (HasSubject h.triple) is (h.conflicts.each k c low)

  placed-subject : MatterData ℕ → Option (MatterData Place)
  placed-subject d = Some (rename_matter (place_at h.places) d)

  subjects : map (subject_in all) cs ≡ map placed-subject (map conflict_subject cs)
  unfolding placed-subject
  subjects =
      maps-same (subject_in all) (λ c. Some (rename_matter (place_at h.places) (conflict_subject c))) cs
      (λ c among. (subject-placed c (has-subject c among) (subject-conflict c among)).0)
      ∙ sym (map-map (λ d. Some (rename_matter (place_at h.places) d)) conflict_subject cs)

  conflicts-exact : (c : MatterData Place) → Contains (map (subject_in all) cs) (Some c) ↔ (IsConflicting c × IsMatter (rename_triple (place_at h.places) h.triple) c)
  unfolding placed-subject
  conflicts-exact c = (
    λ k.
        let (d, among, is) = map-in placed-subject (map conflict_subject cs) (Some c) (subst (λ (zs : List (Option (MatterData Place))). Contains zs (Some c)) subjects k) in
        let (conflicting, matter) = (h.conflicts.exact d).0 among in
        let same = same_Some (rename_matter (place_at h.places) d) c is in
        (subst IsConflicting same ((conflicting-same h.places d).0 conflicting), (conflicts-of-places h.places h.triple (used-number all h.places h.triple h.sides) c).1 (d, matter, same)),
    λ (conflicting, k).
        let (d, conflict, is) = (conflicts-of-places h.places h.triple (used-number all h.places h.triple h.sides) c).0 k in
        let is-d : IsConflicting d = (conflicting-same h.places d).1 (subst IsConflicting (sym is) conflicting) in
        subst (λ (zs : List (Option (MatterData Place))). Contains zs (Some c)) (sym subjects)
        (subst (λ (z : Option (MatterData Place)). Contains (map placed-subject (map conflict_subject cs)) z) (ap Some is) (in-map placed-subject (map conflict_subject cs) d ((h.conflicts.exact d).1 (is-d, conflict)))),
  )

  conflicts-once : AllPairs (λ a b. a ≢ b) (map (subject_in all) cs)
  unfolding placed-subject
  conflicts-once = subst (AllPairs (λ a b. a ≢ b)) (sym subjects)
      (pairs-mapped placed-subject (map conflict_subject cs)
      (λ a b ina inb same. conflict-one h.places h.triple (used-number all h.places h.triple h.sides) a b ((h.conflicts.exact a).0 ina).1 ((h.conflicts.exact b).0 inb).1 (same_Some (rename_matter (place_at h.places) a) (rename_matter (place_at h.places) b) same))
      h.conflicts.once)

  pub conflicts-by-places : AreConflictsByPlaces all cs
  conflicts-by-places = record {
    placed = rename_triple (place_at h.places) h.triple;
    lists = record { base = h.sides.base.placed; ours = h.sides.ours.placed; theirs = h.sides.theirs.placed };
    none = no-merge-of-places h.places h.triple (used-number all h.places h.triple h.sides) h.none;
    exact = conflicts-exact;
    once = conflicts-once;
    each = λ k d low.
        let c : Conflict = get_or cs k d in
        (subject-placed c (h.conflicts.each k d low) (subject-conflict c (Contains-get_or cs k d low))).1;
    some = h.some;
  }

-- ---- notices

module _ (all : Lockfiles) (places : List Place) (s : Triple ℕ) (are : AreSides all places s) (ns : List merging.Conflict) (h : AreNotices s ns) where
  notice-matter : (c : merging.Conflict) → Contains ns c → IsMatter s (subject_at c)
  notice-matter c among = ((h.exact (subject_at c)).0 (in-map subject_at ns c among)).1

  has-notice : (c : merging.Conflict) → Contains ns c → IsConflictAt s c.kind c
  has-notice c (k, low, is) = subst (λ (d : merging.Conflict). IsConflictAt s d.kind d) is (h.each k c low)

  notice-placed : (c : merging.Conflict) → Contains ns c
      → (subject_of_place all c ≡ Some (rename_matter (place_at places) (subject_at c))) × HasSubjectAt all (rename_triple (place_at places) s) c
  notice-placed c among =
      let (is, packages) = conflict-placed all places s are c.kind c (has-notice c among) (notice-matter c among) in
      (ap (option_map (conflict_of c.kind)) is ∙ ap Some (renamed-of places c.kind c.place), (place_at places c.place, is, packages))

  placed-notice : MatterData ℕ → Option (MatterData Place)
  placed-notice d = Some (rename_matter (place_at places) d)

  notice-subjects : map (subject_of_place all) ns ≡ map placed-notice (map subject_at ns)
  unfolding placed-notice
  notice-subjects =
      maps-same (subject_of_place all) (λ c. Some (rename_matter (place_at places) (subject_at c))) ns (λ c among. (notice-placed c among).0)
      ∙ sym (map-map (λ d. Some (rename_matter (place_at places) d)) subject_at ns)

  notices-exact : (c : MatterData Place) → Contains (map (subject_of_place all) ns) (Some c) ↔ ((¬ IsConflicting c) × IsMatter (rename_triple (place_at places) s) c)
  unfolding placed-notice
  notices-exact c = (
    λ k.
        let (d, among, is) = map-in placed-notice (map subject_at ns) (Some c) (subst (λ (zs : List (Option (MatterData Place))). Contains zs (Some c)) notice-subjects k) in
        let (told, matter) = (h.exact d).0 among in
        let same = same_Some (rename_matter (place_at places) d) c is in
        (λ conflicting. told ((conflicting-same places d).1 (subst IsConflicting (sym same) conflicting)), (conflicts-of-places places s (used-number all places s are) c).1 (d, matter, same)),
    λ (told, k).
        let (d, matter, is) = (conflicts-of-places places s (used-number all places s are) c).0 k in
        let told-d : ¬ IsConflicting d = λ conflicting. told (subst IsConflicting is ((conflicting-same places d).0 conflicting)) in
        subst (λ (zs : List (Option (MatterData Place))). Contains zs (Some c)) (sym notice-subjects)
        (subst (λ (z : Option (MatterData Place)). Contains (map placed-notice (map subject_at ns)) z) (ap Some is) (in-map placed-notice (map subject_at ns) d ((h.exact d).1 (told-d, matter)))),
  )

  pub notices-by-places : AreNoticesByPlaces all ns
  unfolding placed-notice
  notices-by-places = record {
    placed = rename_triple (place_at places) s;
    lists = record { base = are.base.placed; ours = are.ours.placed; theirs = are.theirs.placed };
    exact = notices-exact;
    once = subst (AllPairs (λ a b. a ≢ b)) (sym notice-subjects)
        (pairs-mapped placed-notice (map subject_at ns)
        (λ a b ina inb same. conflict-one places s (used-number all places s are) a b ((h.exact a).0 ina).1 ((h.exact b).0 inb).1 (same_Some (rename_matter (place_at places) a) (rename_matter (place_at places) b) same))
        h.once);
    each = λ k d low. let c : merging.Conflict = get_or ns k d in (notice-placed c (Contains-get_or ns k d low)).1;
  }

-- ---- moved references

module _ (all : Lockfiles) (ps : List PackageData) (remarks : Remarks) (h : IsMergeFound all ps remarks) where
  a : IsAssembledMerge all h.places h.triple h.numbered ps
  a = assembled-at all h.places h.triple h.numbered ps h.sides h.merged h.assembled

  pair : ℕ × ℕ → Place × Place
  pair p = (place_at h.places p.0, place_at h.places p.1)

  IsMovedHere : Moved → Type 0
  IsMovedHere r = (x : PlacedData ℕ) × (y : PlacedData ℕ) × IsMoved h.triple.ours h.triple.theirs h.numbered x y r.found

  moved-here : (r : Moved) → Contains remarks.moved.items r → IsMovedHere r
  unfolding IsMovedHere
  moved-here r (k, low, is) = subst IsMovedHere is (h.moved.each k r low)

  placed-here : (r : Moved) → IsMovedHere r → IsMovedIn a.merge.placed a.merge.merged r × (moved_places all r ≡ pair (moved_numbers r))
  unfolding IsMovedHere pair
  placed-here r (x, y, is) =
      let (z, w, between, places) = moved-placed all h.places h.triple h.sides h.numbered h.merged a.merge.merged a.from a.into x y r.found is in
      ((z, w, subst (λ (s : Triple Place). IsMovedBetween s a.merge.merged z w r.found) (sym a.placed) between), places)

  places-same : map (moved_places all) remarks.moved.items ≡ map pair (map moved_numbers remarks.moved.items)
  places-same = maps-same (moved_places all) (λ r. pair (moved_numbers r)) remarks.moved.items (λ r among. (placed-here r (moved-here r among)).1) ∙ sym (map-map pair moved_numbers remarks.moved.items)

  numbers-of : (p : ℕ × ℕ) → Contains (map moved_numbers remarks.moved.items) p → IsNumber h.places p.0 × IsNumber h.places p.1
  unfolding IsMovedHere
  numbers-of p among =
      let (r, there, same) = map-in moved_numbers remarks.moved.items p among in
      let (x, y, is) = moved-here r there in
      let nx = merged-number all h.places h.triple h.sides h.numbered h.merged x is.moved.from in
      let ny = merged-number all h.places h.triple h.sides h.numbered h.merged y is.moved.to in
      (subst (IsNumber h.places) (sym is.from ∙ ap (λ (q : ℕ × ℕ). q.0) same) nx, subst (IsNumber h.places) (sym is.to ∙ ap (λ (q : ℕ × ℕ). q.1) same) ny)

  pair-one : (p q : ℕ × ℕ) → Contains (map moved_numbers remarks.moved.items) p → Contains (map moved_numbers remarks.moved.items) q → pair p ≡ pair q → p ≡ q
  unfolding pair
  pair-one p q inp inq same =
      let (np, mp) = numbers-of p inp in
      let (nq, mq) = numbers-of q inq in
      let e = numbers-one h.places p.0 q.0 np nq (ap (λ (w : Place × Place). w.0) same) in
      let f = numbers-one h.places p.1 q.1 mp mq (ap (λ (w : Place × Place). w.1) same) in
      λ i. (e i, f i)

  moved-there : (z w : PlacedData Place) → IsMovedReference a.merge.placed a.merge.merged z w → Contains (map (moved_places all) remarks.moved.items) (z.place, w.place)
  unfolding pair
  moved-there z w r =
      let (x, y, moved, from, to) = moved-back all h.places h.triple h.sides h.numbered h.merged a.merge.merged a.from a.into z w (subst (λ (s : Triple Place). IsMovedReference s a.merge.merged z w) a.placed r) in
      let among = in-map pair (map moved_numbers remarks.moved.items) (x.place, y.place) (h.moved.all_there x y moved) in
      let same : (place_at h.places x.place, place_at h.places y.place) ≡ (z.place, w.place) = λ i. (sym from i, sym to i) in
      subst (λ (zs : List (Place × Place)). Contains zs (z.place, w.place)) (sym places-same) (subst (Contains (map pair (map moved_numbers remarks.moved.items))) same among)

  pub moved-by-places : AreMovedByPlaces all ps remarks.moved.items
  moved-by-places = record {
    merge = a.merge;
    each = λ k d low. let r : Moved = get_or remarks.moved.items k d in (placed-here r (moved-here r (Contains-get_or remarks.moved.items k d low))).0;
    all_there = moved-there;
    once = subst (AllPairs (λ p q. p ≢ q)) (sym places-same) (pairs-mapped pair (map moved_numbers remarks.moved.items) pair-one h.moved.once);
  }

-- ---- what a merge returns

pub finds-by-places : (all : Lockfiles) (o : Outcome) → FindsMerge all o → FindsByPlaces all o
finds-by-places all (Merged packages remarks) h =
    (moved-by-places all packages.items remarks h, notices-by-places all h.places h.triple h.sides remarks.notices.items h.notices)
finds-by-places all (Conflicts conflicts) h = conflicts-by-places all conflicts.items h

conflicts-if-any : (all : Lockfiles) (cs : List Conflict) → AreConflictingPackages all cs → AreConflictsIfAny all cs
conflicts-if-any all [] (packages, remarks, h) = (packages, h.merge)
conflicts-if-any all (c ∷ cs) h = conflicts-by-places all (c ∷ cs) h

pub merges-by-places : (comments : List ℕ) (s : LockfileTriple) (m : LockfileMerge) → MergesTo comments s m → MergesByPlaces s m
merges-by-places comments s (lockfiles.Merged lockfile text remarks) (h, same, back) =
    let (packages, found, refers) = h.packages in (
      packages,
      moved-by-places (packages_of s) packages remarks found,
      notices-by-places (packages_of s) found.places found.triple found.sides remarks.notices.items found.notices,
      refers,
    )
merges-by-places comments s (lockfiles.InConflict conflicts) h = conflicts-if-any (packages_of s) conflicts.packages.items h.packages
