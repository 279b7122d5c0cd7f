-- All conflicts, each once.
use Rattle.std.proofs.Common.{◌≡◌, ◌≢◌, ◌⊎◌, ◌↔◌, ◌<◌, ◌++◌, inl, inr, ℕ, suc, All, List, [], ◌∷◌, get_or, length, map, refl, sym, ap, subst, ◌∙◌, arith}
use Rattle.std.specs.List.{AllPairs, Contains}
use Rattle.std.specs.List.Sorted.{IsPermutation}
use Rattle.std.proofs.lemmas.List.{get_or-map, length-map, map-append}
use Rattle.std.proofs.lemmas.List.Elements.{All-append, All-map, Contains-append_cases, Contains-append_left, Contains-append_right}
use Rattle.std.proofs.lemmas.List.Sorted.{All-permutation, Contains-permutation, IsPermutation-sym}
use Rattle.std.proofs.lemmas.Simd.{map-map}
use Rattle.cargo_lock_parts.specs.SourceKey.{Key}
use Rattle.lists.proofs.Pairs.{pairs-append}
use Rattle.cargo_lock_merge_core.specs.declared.commits.SourceCommits.{SourceCommits}
use Rattle.cargo_lock_merge_core.specs.declared.conflicts.Conflict as merging
use Rattle.cargo_lock_merge_core.specs.declared.conflicts.Kind.{Kind}
use Rattle.cargo_lock_merge_core.specs.declared.conflicts.Kind.TheVariants.{Checksum, LostChecksum, Package, Replacement, Version}
use Rattle.cargo_lock_merge_core.specs.Conflicts.{AreConflicts, IsConflictAt, conflict_of, conflict_places}
use Rattle.cargo_lock_merge_core.specs.Disputes.{AreDisputes, AreInDispute, HasCommits, source_key}
use Rattle.cargo_lock_merge_core.specs.Merge.{IsConflicting, MatterData, IsMatter, OfChecksum, OfLostChecksum, OfPackage, OfReplacement, OfSource, OfVersion, Triple, lockfiles_of}
use Rattle.cargo_lock_merge_core.proofs.Ascending.{far-below}
use Rattle.lists.proofs.Members.{in-map, map-in}
use Rattle.cargo_lock_merge_core.proofs.Permuting.{map-permuted, pairs-permuted}
use Rattle.cargo_lock_merge.specs.declared.conflict.Conflict.{Conflict}
use Rattle.cargo_lock_merge.specs.declared.conflict.Conflict.TheVariants as variant
use Rattle.cargo_lock_merge.specs.Notice.{AreNotices}
use Rattle.cargo_lock_merge.specs.Conflict.{AreConflictsAtPlaces, AreConflictsOf, HasSubject, IsAtPlace, conflict_subject, subject_at}

place-in : MatterData ℕ → ℕ
place-in (OfPackage p) = p
place-in (OfChecksum p) = p
place-in (OfReplacement p) = p
place-in (OfSource g) = 0
place-in (OfVersion p) = p
place-in (OfLostChecksum p) = p

key-in : Key → MatterData ℕ → Key
key-in h (OfPackage p) = h
key-in h (OfChecksum p) = h
key-in h (OfReplacement p) = h
key-in h (OfSource g) = g
key-in h (OfVersion p) = h
key-in h (OfLostChecksum p) = h

place-back : (kind : Kind) (p : ℕ) → place-in (conflict_of kind p) ≡ p
unfolding place-in
place-back Package p = refl
place-back Checksum p = refl
place-back Replacement p = refl
place-back Version p = refl
place-back LostChecksum p = refl

-- ---- those about one thing

module _ (s : Triple ℕ) (kind : Kind) (cs : List merging.Conflict) (h : AreConflicts s kind cs) where
  kinds : (ds : List merging.Conflict) → ((c : merging.Conflict) → Contains ds c → c.kind ≡ kind) → map subject_at ds ≡ map (conflict_of kind) (conflict_places ds)
  kinds [] each = refl
  kinds (d ∷ ds) each =
      λ i. conflict_of (each d (0, omega arith, refl) i) d.place ∷ kinds ds (λ c (k, low, is). each c (suc k, omega (arith, low), is)) i

  subjects : map subject_at cs ≡ map (conflict_of kind) (conflict_places cs)
  subjects = kinds cs (λ c (k, low, is). subst (λ (z : merging.Conflict). z.kind ≡ kind) is (h.each k c low).3.kind)

  pub exact-of : (c : MatterData ℕ) → Contains (map subject_at cs) c ↔ ((p : ℕ) × (conflict_of kind p ≡ c) × IsMatter s c)
  exact-of c = (
    λ k.
        let (p, among, is) = map-in (conflict_of kind) (conflict_places cs) c (subst (λ (zs : List (MatterData ℕ)). Contains zs c) subjects k) in
        (p, is, subst (IsMatter s) is ((h.holds p).0 among)),
    λ (p, is, k). subst (λ (zs : List (MatterData ℕ)). Contains zs c) (sym subjects)
        (subst (Contains (map (conflict_of kind) (conflict_places cs))) is (in-map (conflict_of kind) (conflict_places cs) p ((h.holds p).1 (subst (IsMatter s) (sym is) k)))),
  )

  pub once-of : AllPairs (λ a b. a ≢ b) (map subject_at cs)
  once-of = subst (AllPairs (λ a b. a ≢ b)) (sym subjects) apart
    where
      apart : AllPairs (λ a b. a ≢ b) (map (conflict_of kind) (conflict_places cs))
      apart i j d less low e =
          let f = conflict_of kind in
          let ps = conflict_places cs in
          let long = length-map ps f in
          let low' : j < length ps = omega (arith, low, long) in
          let up = far-below ps h.ascending i j less low' in
          let ei : get_or (map f ps) i (f 0) ≡ f (get_or ps i 0) = get_or-map f ps i 0 (f 0) (omega (arith, low', less)) in
          let ej : get_or (map f ps) j (f 0) ≡ f (get_or ps j 0) = get_or-map f ps j 0 (f 0) low' in
          let same : f (get_or ps i 0) ≡ f (get_or ps j 0) =
          sym (get_or-map f ps i 0 d (omega (arith, low', less))) ∙ e ∙ get_or-map f ps j 0 d low' in
          let q = sym (place-back kind (get_or ps i 0)) ∙ ap place-in same ∙ place-back kind (get_or ps j 0) in
          omega (arith, up, q)

  pub each-of : All (λ c. IsConflictAt s c.kind c) cs
  each-of k d low =
      let is = h.each k d low in
      subst (λ (w : Kind). IsConflictAt s w (get_or cs k d)) (sym is.3.kind) is

-- ---- those at places

module _ (s : Triple ℕ) (ps cs rs : List merging.Conflict) (packages : AreConflicts s Package ps) (checksums : AreConflicts s Checksum cs) (replacements : AreConflicts s Replacement rs) where
  joined : List merging.Conflict
  joined = (ps ++ cs) ++ rs

  subjects-joined : map subject_at joined ≡ (map subject_at ps ++ map subject_at cs) ++ map subject_at rs
  unfolding joined
  subjects-joined = map-append subject_at (ps ++ cs) rs ∙ ap (λ zs. zs ++ map subject_at rs) (map-append subject_at ps cs)

  from-joined : (c : MatterData ℕ) → Contains ((map subject_at ps ++ map subject_at cs) ++ map subject_at rs) c → IsAtPlace c × IsMatter s c
  from-joined c k = elim (Contains-append_cases (map subject_at ps ++ map subject_at cs) (map subject_at rs) c k) [
    | inl front ↦ elim (Contains-append_cases (map subject_at ps) (map subject_at cs) c front) [
      | inl a ↦ let (p, is, conflict) = (exact-of s Package ps packages c).0 a in (subst IsAtPlace is tt, conflict)
      | inr a ↦ let (p, is, conflict) = (exact-of s Checksum cs checksums c).0 a in (subst IsAtPlace is tt, conflict)
    ]
    | inr a ↦ let (p, is, conflict) = (exact-of s Replacement rs replacements c).0 a in (subst IsAtPlace is tt, conflict)
  ]

  to-joined : (c : MatterData ℕ) → IsAtPlace c → IsMatter s c → Contains ((map subject_at ps ++ map subject_at cs) ++ map subject_at rs) c
  to-joined (OfPackage p) at k = Contains-append_left (map subject_at ps ++ map subject_at cs) (map subject_at rs) (OfPackage p)
      (Contains-append_left (map subject_at ps) (map subject_at cs) (OfPackage p) ((exact-of s Package ps packages (OfPackage p)).1 (p, refl, k)))
  to-joined (OfChecksum p) at k = Contains-append_left (map subject_at ps ++ map subject_at cs) (map subject_at rs) (OfChecksum p)
      (Contains-append_right (map subject_at ps) (map subject_at cs) (OfChecksum p) ((exact-of s Checksum cs checksums (OfChecksum p)).1 (p, refl, k)))
  to-joined (OfReplacement p) at k = Contains-append_right (map subject_at ps ++ map subject_at cs) (map subject_at rs) (OfReplacement p)
      ((exact-of s Replacement rs replacements (OfReplacement p)).1 (p, refl, k))
  to-joined (OfSource g) at k = absurd at
  to-joined (OfVersion p) at k = absurd at
  to-joined (OfLostChecksum p) at k = absurd at

  once-joined : AllPairs (λ a b. a ≢ b) ((map subject_at ps ++ map subject_at cs) ++ map subject_at rs)
  once-joined =
      pairs-append (λ a b. a ≢ b) (map subject_at ps ++ map subject_at cs) (map subject_at rs)
      (pairs-append (λ a b. a ≢ b) (map subject_at ps) (map subject_at cs) (once-of s Package ps packages) (once-of s Checksum cs checksums)
      (λ x y a b e.
      let (p, is, k) = (exact-of s Package ps packages x).0 a in
      let (q, is', k') = (exact-of s Checksum cs checksums y).0 b in
      let n : OfPackage p ≡ OfChecksum q = is ∙ e ∙ sym is' in cc))
      (once-of s Replacement rs replacements)
      (λ x y a b e.
      let (q, is', k') = (exact-of s Replacement rs replacements y).0 b in
      elim (Contains-append_cases (map subject_at ps) (map subject_at cs) x a) [
        | inl w ↦ let (p, is, k) = (exact-of s Package ps packages x).0 w in let n : OfPackage p ≡ OfReplacement q = is ∙ e ∙ sym is' in cc
        | inr w ↦ let (p, is, k) = (exact-of s Checksum cs checksums x).0 w in let n : OfChecksum p ≡ OfReplacement q = is ∙ e ∙ sym is' in cc
      ])

  -- in another order
  pub at-places : (all : List merging.Conflict) → IsPermutation ((ps ++ cs) ++ rs) all → AreConflictsAtPlaces s all
  unfolding joined
  at-places all perm =
      let moved = map-permuted subject_at ((ps ++ cs) ++ rs) all perm in
      let back = IsPermutation-sym (map subject_at ((ps ++ cs) ++ rs)) (map subject_at all) moved in
      record {
        exact = λ c. (
          λ k. from-joined c (subst (λ (zs : List (MatterData ℕ)). Contains zs c) subjects-joined (Contains-permutation (map subject_at all) (map subject_at ((ps ++ cs) ++ rs)) c back k)),
          λ k. Contains-permutation (map subject_at ((ps ++ cs) ++ rs)) (map subject_at all) c moved (subst (λ (zs : List (MatterData ℕ)). Contains zs c) (sym subjects-joined) (to-joined c k.0 k.1)),
        );
        once = pairs-permuted (λ a b. a ≢ b) (λ a b apart e. apart (sym e)) (map subject_at ((ps ++ cs) ++ rs)) (map subject_at all) moved
            (subst (AllPairs (λ a b. a ≢ b)) (sym subjects-joined) once-joined);
        each = All-permutation (λ c. IsConflictAt s c.kind c) ((ps ++ cs) ++ rs) all perm
            (All-append (λ c. IsConflictAt s c.kind c) (ps ++ cs) rs (All-append (λ c. IsConflictAt s c.kind c) ps cs (each-of s Package ps packages) (each-of s Checksum cs checksums))
            (each-of s Replacement rs replacements));
      }

-- ---- those that are no conflicts

module _ (s : Triple ℕ) (vs ls : List merging.Conflict) (versions : AreConflicts s Version vs) (lost : AreConflicts s LostChecksum ls) where
  told : map subject_at (vs ++ ls) ≡ map subject_at vs ++ map subject_at ls
  told = map-append subject_at vs ls

  told-from : (c : MatterData ℕ) → Contains (map subject_at vs ++ map subject_at ls) c → (¬ IsConflicting c) × IsMatter s c
  told-from c k = elim (Contains-append_cases (map subject_at vs) (map subject_at ls) c k) [
    | inl a ↦ let (p, is, matter) = (exact-of s Version vs versions c).0 a in (subst (λ (d : MatterData ℕ). ¬ IsConflicting d) is (λ none. none), matter)
    | inr a ↦ let (p, is, matter) = (exact-of s LostChecksum ls lost c).0 a in (subst (λ (d : MatterData ℕ). ¬ IsConflicting d) is (λ none. none), matter)
  ]

  told-to : (c : MatterData ℕ) → ¬ IsConflicting c → IsMatter s c → Contains (map subject_at vs ++ map subject_at ls) c
  told-to (OfPackage p) none k = absurd (none tt)
  told-to (OfChecksum p) none k = absurd (none tt)
  told-to (OfReplacement p) none k = absurd (none tt)
  told-to (OfSource g) none k = absurd (none tt)
  told-to (OfVersion p) none k = Contains-append_left (map subject_at vs) (map subject_at ls) (OfVersion p) ((exact-of s Version vs versions (OfVersion p)).1 (p, refl, k))
  told-to (OfLostChecksum p) none k =
      Contains-append_right (map subject_at vs) (map subject_at ls) (OfLostChecksum p) ((exact-of s LostChecksum ls lost (OfLostChecksum p)).1 (p, refl, k))

  told-once : AllPairs (λ a b. a ≢ b) (map subject_at vs ++ map subject_at ls)
  told-once = pairs-append (λ a b. a ≢ b) (map subject_at vs) (map subject_at ls) (once-of s Version vs versions) (once-of s LostChecksum ls lost)
      (λ x y a b e.
      let (p, is, k) = (exact-of s Version vs versions x).0 a in
      let (q, is', k') = (exact-of s LostChecksum ls lost y).0 b in
      let n : OfVersion p ≡ OfLostChecksum q = is ∙ e ∙ sym is' in cc)

  -- in another order
  pub are-notices : (all : List merging.Conflict) → IsPermutation (vs ++ ls) all → AreNotices s all
  are-notices all perm =
      let moved = map-permuted subject_at (vs ++ ls) all perm in
      let back = IsPermutation-sym (map subject_at (vs ++ ls)) (map subject_at all) moved in
      record {
        exact = λ c. (
          λ k. told-from c (subst (λ (zs : List (MatterData ℕ)). Contains zs c) told (Contains-permutation (map subject_at all) (map subject_at (vs ++ ls)) c back k)),
          λ k. Contains-permutation (map subject_at (vs ++ ls)) (map subject_at all) c moved (subst (λ (zs : List (MatterData ℕ)). Contains zs c) (sym told) (told-to c k.0 k.1)),
        );
        once = pairs-permuted (λ a b. a ≢ b) (λ a b apart e. apart (sym e)) (map subject_at (vs ++ ls)) (map subject_at all) moved (subst (AllPairs (λ a b. a ≢ b)) (sym told) told-once);
        each = All-permutation (λ c. IsConflictAt s c.kind c) (vs ++ ls) all perm
            (All-append (λ c. IsConflictAt s c.kind c) vs ls (each-of s Version vs versions) (each-of s LostChecksum ls lost));
      }

-- ---- with the sources

module _ (s : Triple ℕ) (at : List merging.Conflict) (places : AreConflictsAtPlaces s at) (old new : List SourceCommits) (disputes : AreDisputes s old) (perm : IsPermutation old new) where
  source-of : SourceCommits → MatterData ℕ
  source-of c = OfSource (source_key c)

  subjects-all : map conflict_subject (map variant.AtPlace at ++ map variant.OfSource new) ≡ map subject_at at ++ map source-of new
  unfolding source-of
  subjects-all = map-append conflict_subject (map variant.AtPlace at) (map variant.OfSource new)
      ∙ (λ i. map-map conflict_subject variant.AtPlace at i ++ map-map conflict_subject variant.OfSource new i)

  moved : IsPermutation (map source_key old) (map source_key new)
  moved = map-permuted source_key old new perm

  source-exact : (c : MatterData ℕ) → Contains (map source-of new) c ↔ ((g : Key) × (OfSource g ≡ c) × IsMatter s c)
  unfolding source-of
  source-exact c = (
    λ k.
        let (d, among, is) = map-in (λ (c : SourceCommits). OfSource (source_key c)) new c k in
        let g = source_key d in (
          g,
          is,
          subst (IsMatter s) is ((disputes.exact g).0
              (Contains-permutation (map source_key new) (map source_key old) g (IsPermutation-sym (map source_key old) (map source_key new) moved) (in-map source_key new d among))),
        ),
    λ (g, is, k).
        let (d, among, same) = map-in source_key new g (Contains-permutation (map source_key old) (map source_key new) g moved ((disputes.exact g).1 (subst (IsMatter s) (sym is) k))) in
        subst (Contains (map (λ (c : SourceCommits). OfSource (source_key c)) new)) (ap OfSource same ∙ is) (in-map (λ (c : SourceCommits). OfSource (source_key c)) new d among),
  )

  source-once : AllPairs (λ a b. a ≢ b) (map source-of new)
  unfolding source-of key-in
  source-once i j d less low e =
      let f : SourceCommits → MatterData ℕ = λ c. OfSource (source_key c) in
      let long = length-map new f in
      let long' = length-map new source_key in
      let low' : j < length new = omega (arith, low, long) in
      let before : i < length new = omega (arith, low', less) in
      let z : SourceCommits = first-of new j low' in
      let apart = pairs-permuted (λ (a b : Key). a ≢ b) (λ a b apart e. apart (sym e)) (map source_key old) (map source_key new) moved disputes.once i j (source_key z) less (omega (arith, low', long')) in
      let same : OfSource (source_key (get_or new i z)) ≡ OfSource (source_key (get_or new j z)) =
      sym (get_or-map f new i z d before) ∙ e ∙ get_or-map f new j z d low' in
      apart (get_or-map source_key new i z (source_key z) before ∙ ap (key-in (source_key z)) same ∙ sym (get_or-map source_key new j z (source_key z) low'))
    where
      first-of : (xs : List SourceCommits) (j : ℕ) → j < length xs → SourceCommits
      first-of [] j low = absurd (omega (arith, low))
      first-of (x ∷ xs) j low = x

  by : (c : MatterData ℕ) → IsConflicting c → IsMatter s c → Contains (map subject_at at) c ⊎ Contains (map source-of new) c
  by (OfPackage p) is k = inl ((places.exact (OfPackage p)).1 (tt, k))
  by (OfChecksum p) is k = inl ((places.exact (OfChecksum p)).1 (tt, k))
  by (OfReplacement p) is k = inl ((places.exact (OfReplacement p)).1 (tt, k))
  by (OfSource g) is k = inr ((source-exact (OfSource g)).1 (g, refl, k))
  by (OfVersion p) is k = absurd is
  by (OfLostChecksum p) is k = absurd is

  at-conflicting : (c : MatterData ℕ) → IsAtPlace c → IsConflicting c
  at-conflicting (OfPackage p) at = tt
  at-conflicting (OfChecksum p) at = tt
  at-conflicting (OfReplacement p) at = tt
  at-conflicting (OfSource g) at = tt
  at-conflicting (OfVersion p) at = absurd at
  at-conflicting (OfLostChecksum p) at = absurd at

  pub are-conflicts : (all : List Conflict) → all ≡ map variant.AtPlace at ++ map variant.OfSource new → AreConflictsOf s all
  are-conflicts all is = subst (AreConflictsOf s) (sym is) record {
    exact = λ c. (
      λ k. elim (Contains-append_cases (map subject_at at) (map source-of new) c (subst (λ (zs : List (MatterData ℕ)). Contains zs c) subjects-all k)) [
        | inl a ↦ let (at, k') = (places.exact c).0 a in (at-conflicting c at, k')
        | inr a ↦ let (g, is, k') = (source-exact c).0 a in (subst IsConflicting is tt, k')
      ],
      λ k. subst (λ (zs : List (MatterData ℕ)). Contains zs c) (sym subjects-all) (elim (by c k.0 k.1) [
        | inl a ↦ Contains-append_left (map subject_at at) (map source-of new) c a
        | inr a ↦ Contains-append_right (map subject_at at) (map source-of new) c a
      ]),
    );
    once = subst (AllPairs (λ a b. a ≢ b)) (sym subjects-all)
        (pairs-append (λ a b. a ≢ b) (map subject_at at) (map source-of new) places.once source-once
        (λ x y a b e.
        let at' = ((places.exact x).0 a).0 in
        let (g, is, k) = (source-exact y).0 b in
        subst IsAtPlace (e ∙ sym is) at'));
    each = All-append (HasSubject s) (map variant.AtPlace at) (map variant.OfSource new)
        (All-map (HasSubject s) variant.AtPlace at places.each)
        (All-map (HasSubject s) variant.OfSource new (All-permutation (λ c. HasCommits (lockfiles_of s) c × AreInDispute c) old new perm disputes.each));
  }
