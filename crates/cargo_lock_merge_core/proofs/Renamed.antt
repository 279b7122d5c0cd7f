-- What is reached and merged where places are renamed one to one.
use Rattle.std.proofs.Common.{◌≡◌, ◌⊎◌, ◌↔◌, ◌<◌, inl, inr, ℕ, Bool, true, false, cond, List, [], ◌∷◌, length, get_or, map, Option, Some, None, option_map, refl, sym, ap, subst, ◌∙◌, arith}
use Rattle.std.specs.List.{Contains}
use Rattle.std.proofs.lemmas.List.{get_or-map, length-map}
use Rattle.std.proofs.lemmas.List.Elements.{Contains-get_or}
use Rattle.std.proofs.lemmas.Option.{same_Some}
use Rattle.cargo_lock_parts.specs.Identity.{PackageData, identity_of}
use Rattle.cargo_lock_parts.specs.IdentityOrder.{is_same_identity}
use Rattle.lists.proofs.Members.{in-map, map-in}
use Rattle.cargo_lock_merge_core.specs.Choices.{Counts, DependsOn, HasLostChecksum, HasNoChecksumFor, IsChecksum, IsChecksumConflict, IsChosen, IsClash, IsDependency, IsDependencyOf, IsOfSide, IsReplacement, IsReplacementConflict, checksum_if, if_same, replacement_if}
use Rattle.cargo_lock_merge_core.specs.Commits.{IsSourceConflict, Lockfiles, git_in}
use Rattle.lists.specs.Chains.{IsChain}
use Rattle.cargo_lock_merge_core.specs.Merge.{MatterData, HasReference, HaveAt, IsMatter, IsMerge, IsMergedPackage, IsReachedInMerge, IsRootOfMerge, LeadsToInMerge, OfChecksum, OfPackage, OfReplacement, OfSource, OfVersion, OfLostChecksum, Triple, lockfiles_of}
use Rattle.cargo_lock_merge_core.specs.Placed.{HasAt, HasMember, HasOneAtEach, IsAt, PlacedData, contents_of}
use Rattle.cargo_lock_merge_core.specs.Renaming.{Has, IsOneToOne, IsUsed, rename, rename_all, rename_matter, rename_triple}
use Rattle.cargo_lock_merge_core.specs.Rule3.{IsDisputed, IsKept, IsMergedValue}
use Rattle.cargo_lock_merge_core.proofs.OnlyValue.{only-cast, two-cast}
use Rattle.cargo_lock_merge_core.proofs.Once.{kept-iff}
use Rattle.cargo_lock_merge_core.proofs.Renaming.{chosen-of, chosen-to, clash-same, key-same, side-of, side-to, versions-to}

contents-same : {P Q : Type 0} (f : P → Q) (xs : List (PlacedData P)) → contents_of (rename_all f xs) ≡ contents_of xs
contents-same f [] = refl
contents-same f (x ∷ xs) = ap (λ (ps : List PackageData). x.content ∷ ps) (contents-same f xs)

pub lockfiles-same : {P Q : Type 0} (f : P → Q) (s : Triple P) → lockfiles_of (rename_triple f s) ≡ lockfiles_of s
lockfiles-same f s = λ i. record { base = contents-same f s.base i; ours = contents-same f s.ours i; theirs = contents-same f s.theirs i }

kept-of : {b o t : Type 0} → IsKept b o t → o ⊎ t
kept-of (inl both) = inl both.0
kept-of (inr one) = one.0

module _ {P Q : Type 0} (f : P → Q) (s : Triple P) (inj : IsOneToOne s f) where
  -- the list is one of the three
  record IsList (xs : List (PlacedData P)) : Type 0 where
    used : (p : P) → Has xs p → IsUsed s p

  base-list : IsList s.base
  base-list = record { used = λ p h. inl h }

  our-list : IsList s.ours
  our-list = record { used = λ p h. inr (inl h) }

  their-list : IsList s.theirs
  their-list = record { used = λ p h. inr (inr h) }

  place-used : (xs : List (PlacedData P)) → IsList xs → (x : PlacedData P) → Contains xs x → IsUsed s x.place
  place-used xs l x h = l.used x.place (x, h, inl refl)

  depends-used : (xs : List (PlacedData P)) → IsList xs → (x : PlacedData P) (d : P) → Contains xs x → Contains x.dependencies d → IsUsed s d
  depends-used xs l x d h k = l.used d (x, h, inr (inl k))

  replaced-used : (xs : List (PlacedData P)) → IsList xs → (x : PlacedData P) (d : P) → Contains xs x → x.replacement ≡ Some d → IsUsed s d
  replaced-used xs l x d h k = l.used d (x, h, inr (inr k))

  -- ---- what is at a place

  at-to : (xs : List (PlacedData P)) → IsList xs → (p : P) → IsUsed s p → (o : Option (PlacedData P)) → IsAt xs p o → IsAt (rename_all f xs) (f p) (option_map (rename f) o)
  at-to xs l p u (Some x) h = (in-map (rename f) xs x h.0, ap f h.1)
  at-to xs l p u None h = λ x k.
      let y = map-in (rename f) xs x k.0 in
      let e : f y.0.place ≡ f p = ap (λ (z : PlacedData Q). z.place) y.2 ∙ k.1 in
      h y.0 (y.1, inj y.0.place p (place-used xs l y.0 y.1) u e)

  at-of : (xs : List (PlacedData P)) → IsList xs → (p : P) → IsUsed s p → (o : Option (PlacedData Q)) → IsAt (rename_all f xs) (f p) o
      → (a : Option (PlacedData P)) × IsAt xs p a × (option_map (rename f) a ≡ o)
  at-of xs l p u None h = (None, λ x k. h (rename f x) (in-map (rename f) xs x k.0, ap f k.1), refl)
  at-of xs l p u (Some x) h =
      let y = map-in (rename f) xs x h.0 in
      let e : f y.0.place ≡ f p = ap (λ (z : PlacedData Q). z.place) y.2 ∙ h.1 in
      (Some y.0, (y.1, inj y.0.place p (place-used xs l y.0 y.1) u e), ap Some y.2)

  member-to : (xs : List (PlacedData P)) (p : P) → HasMember xs p → HasMember (rename_all f xs) (f p)
  member-to xs p (x, h, n) = (rename f x, (in-map (rename f) xs x h.0, ap f h.1), n)

  member-of : (xs : List (PlacedData P)) → IsList xs → (p : P) → IsUsed s p → HasMember (rename_all f xs) (f p) → HasMember xs p
  member-of xs l p u (x, h, n) =
      let k = at-of xs l p u (Some x) h in
      let y = map-in (rename f) xs x h.0 in
      let e : f y.0.place ≡ f p = ap (λ (z : PlacedData Q). z.place) y.2 ∙ h.1 in
      (y.0, (y.1, inj y.0.place p (place-used xs l y.0 y.1) u e), ap (λ (z : PlacedData Q). z.content.source) y.2 ∙ n)

  -- ---- roots

  root-iff : (p : P) → IsUsed s p → IsRootOfMerge s p ↔ IsRootOfMerge (rename_triple f s) (f p)
  root-iff p u = kept-iff
      (member-to s.base p, member-of s.base base-list p u)
      (member-to s.ours p, member-of s.ours our-list p u)
      (member-to s.theirs p, member-of s.theirs their-list p u)

  member-used : (xs : List (PlacedData P)) → IsList xs → (p : P) → HasMember xs p → IsUsed s p
  member-used xs l p (x, h, n) = subst (IsUsed s) h.1 (place-used xs l x h.0)

  root-used : (p : P) → IsRootOfMerge s p → IsUsed s p
  root-used p h = elim (kept-of h) [ inl o ↦ member-used s.ours our-list p o | inr t ↦ member-used s.theirs their-list p t ]

  named : (xs : List (PlacedData P)) → IsList xs → (q : Q) (x : PlacedData Q) → HasAt (rename_all f xs) q x → (p : P) × IsUsed s p × (f p ≡ q)
  named xs l q x h =
      let y = map-in (rename f) xs x h.0 in
      (y.0.place, place-used xs l y.0 y.1, ap (λ (z : PlacedData Q). z.place) y.2 ∙ h.1)

  root-of : (q : Q) → IsRootOfMerge (rename_triple f s) q → (p : P) × IsRootOfMerge s p × (f p ≡ q)
  root-of q h =
      let n : (p : P) × IsUsed s p × (f p ≡ q) = elim (kept-of h) [ inl o ↦ named s.ours our-list q o.0 o.1 | inr t ↦ named s.theirs their-list q t.0 t.1 ] in
      (n.0, (root-iff n.0 n.1).1 (subst (IsRootOfMerge (rename_triple f s)) (sym n.2) h), n.2)

  -- ---- dependencies

  -- what a list has at some place, or nothing
  IsOf : List (PlacedData P) → Option (PlacedData P) → Type 0
  IsOf xs o = (x : PlacedData P) → o ≡ Some x → Contains xs x

  depends-to : (o : Option (PlacedData P)) (d : P) → DependsOn o d → DependsOn (option_map (rename f) o) (f d)
  depends-to None d h = h
  depends-to (Some x) d h = in-map f x.dependencies d h

  depends-of : (xs : List (PlacedData P)) → IsList xs → (o : Option (PlacedData P)) → IsOf xs o → (q : Q) → DependsOn (option_map (rename f) o) q
      → (d : P) × IsUsed s d × DependsOn o d × (f d ≡ q)
  unfolding IsOf
  depends-of xs l None of q h = absurd h
  depends-of xs l (Some x) of q h = let k = map-in f x.dependencies q h in (k.0, depends-used xs l x k.0 (of x refl) k.1, k.1, k.2)

  depends-iff : (xs : List (PlacedData P)) → IsList xs → (o : Option (PlacedData P)) → IsOf xs o → (d : P) → IsUsed s d → DependsOn o d ↔ DependsOn (option_map (rename f) o) (f d)
  depends-iff xs l o of d u = (
    depends-to o d,
    λ h. let k = depends-of xs l o of (f d) h in subst (DependsOn o) (inj k.0 d k.1 u k.3) k.2,
  )

  counts-iff : (b : Option (PlacedData P)) (x y : PlacedData P) → Counts b x y ↔ Counts (option_map (rename f) b) (rename f x) (rename f y)
  counts-iff b x y = (
    λ h. elim h [ inl e ↦ inl e | inr more ↦ elim more [ inl e ↦ inr (inl (key-same f b ∙ e)) | inr none ↦ inr (inr none) ] ],
    λ h. elim h [ inl e ↦ inl e | inr more ↦ elim more [ inl e ↦ inr (inl (sym (key-same f b) ∙ e)) | inr none ↦ inr (inr none) ] ],
  )

  dependency-iff : (b o t : Option (PlacedData P)) → IsOf s.base b → IsOf s.ours o → IsOf s.theirs t → (x : PlacedData P) (d : P) → IsUsed s d
      → IsDependencyOf b o t x d ↔ IsDependencyOf (option_map (rename f) b) (option_map (rename f) o) (option_map (rename f) t) (rename f x) (f d)
  dependency-iff b None None ob oo ot x d u = (λ h. h, λ h. h)
  dependency-iff b (Some o) None ob oo ot x d u =
      let e = depends-iff s.ours our-list (Some o) oo d u in
      (λ h. elim h [ inl k ↦ inl (e.0 k) | inr k ↦ inr k ], λ h. elim h [ inl k ↦ inl (e.1 k) | inr k ↦ inr k ])
  dependency-iff b None (Some t) ob oo ot x d u =
      let e = depends-iff s.theirs their-list (Some t) ot d u in
      (λ h. elim h [ inl k ↦ inl k | inr k ↦ inr (e.0 k) ], λ h. elim h [ inl k ↦ inl k | inr k ↦ inr (e.1 k) ])
  dependency-iff b (Some o) (Some t) ob oo ot x d u =
      let eb = depends-iff s.base base-list b ob d u in
      let eo = depends-iff s.ours our-list (Some o) oo d u in
      let et = depends-iff s.theirs their-list (Some t) ot d u in
      let co = counts-iff b x o in
      let ct = counts-iff b x t in
      let k = kept-iff eb eo et in (
        λ h. elim h [
          | inl y ↦ inl (co.0 y.0, ct.0 y.1, k.0 y.2)
          | inr n ↦ elim n [ inl y ↦ inr (inl (λ c. y.0 (co.1 c), et.0 y.1)) | inr y ↦ inr (inr (λ c. y.0 (ct.1 c), eo.0 y.1)) ]
        ],
        λ h. elim h [
          | inl y ↦ inl (co.1 y.0, ct.1 y.1, k.1 y.2)
          | inr n ↦ elim n [ inl y ↦ inr (inl (λ c. y.0 (co.0 c), et.1 y.1)) | inr y ↦ inr (inr (λ c. y.0 (ct.0 c), eo.1 y.1)) ]
        ],
      )

  -- a dependency is one of a side's
  side-depends : (b o t : Option (PlacedData Q)) (x : PlacedData Q) (q : Q) → IsDependencyOf b o t x q → DependsOn o q ⊎ DependsOn t q
  side-depends b None None x q h = h
  side-depends b (Some o) None x q h = h
  side-depends b None (Some t) x q h = h
  side-depends b (Some o) (Some t) x q (inl h) = kept-of h.2
  side-depends b (Some o) (Some t) x q (inr (inl h)) = inr h.1
  side-depends b (Some o) (Some t) x q (inr (inr h)) = inl h.1

  side-named : (o t : Option (PlacedData P)) → IsOf s.ours o → IsOf s.theirs t → (q : Q) → DependsOn (option_map (rename f) o) q ⊎ DependsOn (option_map (rename f) t) q
      → (d : P) × IsUsed s d × (DependsOn o d ⊎ DependsOn t d) × (f d ≡ q)
  side-named o t oo ot q (inl h) = let k = depends-of s.ours our-list o oo q h in (k.0, k.1, inl k.2, k.3)
  side-named o t oo ot q (inr h) = let k = depends-of s.theirs their-list t ot q h in (k.0, k.1, inr k.2, k.3)

  dependency-named : (b o t : Option (PlacedData P)) → IsOf s.base b → IsOf s.ours o → IsOf s.theirs t → (x : PlacedData P) (q : Q)
      → IsDependencyOf (option_map (rename f) b) (option_map (rename f) o) (option_map (rename f) t) (rename f x) q → (d : P) × IsUsed s d × IsDependencyOf b o t x d × (f d ≡ q)
  dependency-named b o t ob oo ot x q h =
      let k = side-named o t oo ot q (side-depends (option_map (rename f) b) (option_map (rename f) o) (option_map (rename f) t) (rename f x) q h) in
      (k.0, k.1, (dependency-iff b o t ob oo ot x k.0 k.1).1 (subst (IsDependencyOf (option_map (rename f) b) (option_map (rename f) o) (option_map (rename f) t) (rename f x)) (sym k.3) h), k.3)

  -- ---- checksums and replacements

  cond-map : (b : Bool) (y : PlacedData P) → cond b (Some (rename f y)) None ≡ option_map (rename f) (cond b (Some y) None)
  cond-map true y = refl
  cond-map false y = refl

  if-same-map : (x : PlacedData P) (o : Option (PlacedData P)) → if_same (rename f x) (option_map (rename f) o) ≡ option_map (rename f) (if_same x o)
  if-same-map x None = refl
  if-same-map x (Some y) = cond-map (is_same_identity (identity_of y.content) (identity_of x.content)) y

  cond-is : (b : Bool) (y z : PlacedData P) → cond b (Some y) None ≡ Some z → y ≡ z
  cond-is true y z e = same_Some y z e
  cond-is false y z e = absurd cc

  if-same-of : (x : PlacedData P) (o : Option (PlacedData P)) (z : PlacedData P) → if_same x o ≡ Some z → o ≡ Some z
  if-same-of x None z e = absurd cc
  if-same-of x (Some y) z e = ap Some (cond-is (is_same_identity (identity_of y.content) (identity_of x.content)) y z e)

  value-cast : {X : Type 0} (a a' : X) (b b' c c' : Option X) (v : X) → a ≡ a' → b ≡ b' → c ≡ c' → IsMergedValue a b c v → IsMergedValue a' b' c' v
  value-cast {X = X} a a' b b' c c' v ea eb ec h =
      subst (λ (w : Option X). IsMergedValue a' b' w v) ec (subst (λ (w : Option X). IsMergedValue a' w c v) eb (subst (λ (w : X). IsMergedValue w b c v) ea h))

  checksum-if-map : (o : Option (PlacedData P)) → checksum_if o ≡ checksum_if (option_map (rename f) o)
  checksum-if-map None = refl
  checksum-if-map (Some x) = refl

  checksum-map : (x : PlacedData P) (o : Option (PlacedData P)) → checksum_if (if_same x o) ≡ checksum_if (if_same (rename f x) (option_map (rename f) o))
  checksum-map x o = checksum-if-map (if_same x o) ∙ ap checksum_if (sym (if-same-map x o))

  checksum-to : (b o t : Option (PlacedData P)) (x : PlacedData P) (c : Option (List ℕ)) → IsChecksum b o t x c
      → IsChecksum (option_map (rename f) b) (option_map (rename f) o) (option_map (rename f) t) (rename f x) c
  checksum-to b o t x c h = only-cast _ _ _ _ _ _ c (checksum-map x b) (checksum-map x o) (checksum-map x t) h

  lacks-to : (x : PlacedData P) (o : Option (PlacedData P)) → HasNoChecksumFor x o → HasNoChecksumFor (rename f x) (option_map (rename f) o)
  lacks-to x o (y, is, none) = (rename f y, if-same-map x o ∙ ap (option_map (rename f)) is, none)

  lost-to : (b o t : Option (PlacedData P)) (x : PlacedData P) → HasLostChecksum b o t x
      → HasLostChecksum (option_map (rename f) b) (option_map (rename f) o) (option_map (rename f) t) (rename f x)
  lost-to b o t x (c, is, lost) = (c, sym (checksum-map x b) ∙ is, elim lost [ inl h ↦ inl (lacks-to x o h) | inr h ↦ inr (lacks-to x t h) ])

  fo : Option P → Option Q
  fo = option_map f

  replaced-if-map : (o : Option (PlacedData P)) → option_map f (replacement_if o) ≡ replacement_if (option_map (rename f) o)
  replaced-if-map None = refl
  replaced-if-map (Some x) = refl

  replaced-map : (o : Option (PlacedData P)) → option_map (option_map f) (option_map (λ (y : PlacedData P). y.replacement) o) ≡ option_map (λ (y : PlacedData Q). y.replacement) (option_map (rename f) o)
  replaced-map None = refl
  replaced-map (Some x) = refl

  value-map : (b : Option P) (o t : Option (Option P)) (v : Option P) → IsMergedValue b o t v → IsMergedValue (option_map f b) (option_map (option_map f) o) (option_map (option_map f) t) (option_map f v)
  value-map b None None v h = h
  value-map b (Some o) None v h = ap (option_map f) h
  value-map b None (Some t) v h = ap (option_map f) h
  value-map b (Some o) (Some t) v (inl h) = inl (ap (option_map f) h.0, ap (option_map f) h.1)
  value-map b (Some o) (Some t) v (inr (inl h)) = inr (inl (ap (option_map f) h.0, ap (option_map f) h.1))
  value-map b (Some o) (Some t) v (inr (inr h)) = inr (inr (ap (option_map f) h.0, ap (option_map f) h.1))

  replacement-to : (b o t : Option (PlacedData P)) (x : PlacedData P) (v : Option P) → IsReplacement b o t x v
      → IsReplacement (option_map (rename f) b) (option_map (rename f) o) (option_map (rename f) t) (rename f x) (option_map f v)
  replacement-to b o t x v h =
      let g = λ (y : PlacedData Q). y.replacement in
      value-cast _ _ _ _ _ _ (option_map f v)
      (replaced-if-map (if_same x b) ∙ ap replacement_if (sym (if-same-map x b)))
      (replaced-map (if_same x o) ∙ ap (option_map g) (sym (if-same-map x o)))
      (replaced-map (if_same x t) ∙ ap (option_map g) (sym (if-same-map x t)))
      (value-map (replacement_if (if_same x b)) (option_map (λ (y : PlacedData P). y.replacement) (if_same x o)) (option_map (λ (y : PlacedData P). y.replacement) (if_same x t)) v h)

  -- the place, if there is one, is used
  IsUsedIf : Option P → Type 0
  IsUsedIf v = (d : P) → v ≡ Some d → IsUsed s d

  used-once : (v w : Option P) → IsUsedIf v → IsUsedIf w → option_map f v ≡ option_map f w → v ≡ w
  unfolding IsUsedIf
  used-once None None a b e = refl
  used-once None (Some y) a b e = absurd cc
  used-once (Some x) None a b e = absurd cc
  used-once (Some x) (Some y) a b e = ap Some (inj x y (a x refl) (b y refl) (same_Some (f x) (f y) e))

  -- the value of an optional one is used
  IsUsedBoth : Option (Option P) → Type 0
  IsUsedBoth o = (v : Option P) → o ≡ Some v → IsUsedIf v

  value-back : (b : Option P) (o t : Option (Option P)) → IsUsedIf b → IsUsedBoth o → IsUsedBoth t → (q : Option Q) → IsMergedValue (option_map f b) (option_map (option_map f) o) (option_map (option_map f) t) q
      → (v : Option P) × IsUsedIf v × IsMergedValue b o t v × (option_map f v ≡ q)
  unfolding IsUsedBoth
  value-back b None None ub uo ut q h = absurd h
  value-back b (Some o) None ub uo ut q h = (o, uo o refl, refl, sym h)
  value-back b None (Some t) ub uo ut q h = (t, ut t refl, refl, sym h)
  value-back b (Some o) (Some t) ub uo ut q (inl h) = (o, uo o refl, inl (used-once o t (uo o refl) (ut t refl) h.0, refl), sym h.1)
  value-back b (Some o) (Some t) ub uo ut q (inr (inl h)) = (t, ut t refl, inr (inl (used-once o b (uo o refl) ub h.0, refl)), sym h.1)
  value-back b (Some o) (Some t) ub uo ut q (inr (inr h)) = (o, uo o refl, inr (inr (used-once t b (ut t refl) ub h.0, refl)), sym h.1)

  used-if : (xs : List (PlacedData P)) → IsList xs → (x : PlacedData P) (o : Option (PlacedData P)) → IsOf xs o → IsUsedIf (replacement_if (if_same x o))
  unfolding IsUsedIf IsOf
  used-if xs l x o of d e = go (if_same x o) refl e
    where
      go : (i : Option (PlacedData P)) → if_same x o ≡ i → replacement_if i ≡ Some d → IsUsed s d
      go None is e = absurd cc
      go (Some y) is e = replaced-used xs l y d (of y (if-same-of x o y is)) e

  used-both : (xs : List (PlacedData P)) → IsList xs → (x : PlacedData P) (o : Option (PlacedData P)) → IsOf xs o → IsUsedBoth (option_map (λ (y : PlacedData P). y.replacement) (if_same x o))
  unfolding IsUsedBoth IsUsedIf IsOf
  used-both xs l x o of v e d is = go (if_same x o) refl e
    where
      go : (i : Option (PlacedData P)) → if_same x o ≡ i → option_map (λ (y : PlacedData P). y.replacement) i ≡ Some v → IsUsed s d
      go None at e = absurd cc
      go (Some y) at e = replaced-used xs l y d (of y (if-same-of x o y at)) (same_Some y.replacement v e ∙ is)

  replacement-back : (b o t : Option (PlacedData P)) → IsOf s.base b → IsOf s.ours o → IsOf s.theirs t → (x : PlacedData P) (q : Q)
      → IsReplacement (option_map (rename f) b) (option_map (rename f) o) (option_map (rename f) t) (rename f x) (Some q) → (d : P) × IsUsed s d × IsReplacement b o t x (Some d) × (f d ≡ q)
  unfolding IsUsedIf
  replacement-back b o t ob oo ot x q h =
      let g = λ (y : PlacedData Q). y.replacement in
      let g' = λ (y : PlacedData P). y.replacement in
      let k = value-back (replacement_if (if_same x b)) (option_map g' (if_same x o)) (option_map g' (if_same x t))
      (used-if s.base base-list x b ob) (used-both s.ours our-list x o oo) (used-both s.theirs their-list x t ot) (Some q)
      (value-cast _ _ _ _ _ _ (Some q)
      (ap replacement_if (if-same-map x b) ∙ sym (replaced-if-map (if_same x b)))
      (ap (option_map g) (if-same-map x o) ∙ sym (replaced-map (if_same x o)))
      (ap (option_map g) (if-same-map x t) ∙ sym (replaced-map (if_same x t))) h) in
      go k.0 k.1 k.2 k.3
    where
      go : (v : Option P) → IsUsedIf v → IsReplacement b o t x v → option_map f v ≡ Some q → (d : P) × IsUsed s d × IsReplacement b o t x (Some d) × (f d ≡ q)
      go None u r e = absurd cc
      go (Some d) u r e = (d, u d refl, r, same_Some (f d) q e)

  -- ---- where places lead

  -- what leads on, where the lockfiles have these packages
  LeadsBy : Lockfiles → Option (PlacedData P) → Option (PlacedData P) → Option (PlacedData P) → P → Type 0
  LeadsBy all x y z d = IsDependency all x y z d ⊎ ((c : PlacedData P) × IsChosen all x y z c × IsReplacement x y z c (Some d))

  LeadsBy' : Lockfiles → Option (PlacedData Q) → Option (PlacedData Q) → Option (PlacedData Q) → Q → Type 0
  LeadsBy' all x y z d = IsDependency all x y z d ⊎ ((c : PlacedData Q) × IsChosen all x y z c × IsReplacement x y z c (Some d))

  is-of : (xs : List (PlacedData P)) (p : P) (o : Option (PlacedData P)) → IsAt xs p o → IsOf xs o
  unfolding IsOf
  is-of xs p None h x e = absurd cc
  is-of xs p (Some y) h x e = subst (Contains xs) (same_Some y x e) h.0

  depends-is-used : (o t : Option (PlacedData P)) → IsOf s.ours o → IsOf s.theirs t → (d : P) → DependsOn o d ⊎ DependsOn t d → IsUsed s d
  unfolding IsOf
  depends-is-used None t oo ot d (inl h) = absurd h
  depends-is-used (Some o) t oo ot d (inl h) = depends-used s.ours our-list o d (oo o refl) h
  depends-is-used o None oo ot d (inr h) = absurd h
  depends-is-used o (Some t) oo ot d (inr h) = depends-used s.theirs their-list t d (ot t refl) h

  own-depends : (b o t : Option (PlacedData P)) (x : PlacedData P) (d : P) → IsDependencyOf b o t x d → DependsOn o d ⊎ DependsOn t d
  own-depends b None None x d h = h
  own-depends b (Some o) None x d h = h
  own-depends b None (Some t) x d h = h
  own-depends b (Some o) (Some t) x d (inl h) = kept-of h.2
  own-depends b (Some o) (Some t) x d (inr (inl h)) = inr h.1
  own-depends b (Some o) (Some t) x d (inr (inr h)) = inl h.1

  module _ (all : Lockfiles) (b o t : Option (PlacedData P)) (ob : IsOf s.base b) (oo : IsOf s.ours o) (ot : IsOf s.theirs t) where
    by-to : (d : P) → LeadsBy all b o t d → LeadsBy' all (option_map (rename f) b) (option_map (rename f) o) (option_map (rename f) t) (f d)
    unfolding LeadsBy LeadsBy'
    by-to d (inl (inl h)) = inl (inl (
      rename f h.0,
      chosen-to f all b o t h.0 h.1,
      (dependency-iff b o t ob oo ot h.0 d (depends-is-used o t oo ot d (own-depends b o t h.0 d h.2))).0 h.2,
    ))
    by-to d (inl (inr h)) = inl (inr ((clash-same f all b o t).0 h.0, elim h.1 [ inl k ↦ inl (depends-to o d k) | inr k ↦ inr (depends-to t d k) ]))
    by-to d (inr h) = inr (rename f h.0, chosen-to f all b o t h.0 h.1, replacement-to b o t h.0 (Some d) h.2)

    by-of : (q : Q) → LeadsBy' all (option_map (rename f) b) (option_map (rename f) o) (option_map (rename f) t) q → (d : P) × IsUsed s d × LeadsBy all b o t d × (f d ≡ q)
    unfolding LeadsBy LeadsBy'
    by-of q (inl (inl h)) =
        let c = chosen-of f all b o t h.0 h.1 in
        let k = dependency-named b o t ob oo ot c.0 q
        (subst (λ (w : PlacedData Q). IsDependencyOf (option_map (rename f) b) (option_map (rename f) o) (option_map (rename f) t) w q) (sym c.2) h.2) in
        (k.0, k.1, inl (inl (c.0, c.1, k.2)), k.3)
    by-of q (inl (inr h)) =
        let k = side-named o t oo ot q h.1 in
        (k.0, k.1, inl (inr ((clash-same f all b o t).1 h.0, k.2)), k.3)
    by-of q (inr h) =
        let c = chosen-of f all b o t h.0 h.1 in
        let k = replacement-back b o t ob oo ot c.0 q
        (subst (λ (w : PlacedData Q). IsReplacement (option_map (rename f) b) (option_map (rename f) o) (option_map (rename f) t) w (Some q)) (sym c.2) h.2) in
        (k.0, k.1, inr (c.0, c.1, k.2), k.3)

    by-side : (d : P) → LeadsBy all b o t d → (x : PlacedData P) × IsOfSide o t x
    unfolding LeadsBy
    by-side d (inl (inl h)) = (h.0, h.1.0)
    by-side d (inl (inr h)) = (h.0.one, h.0.of_side)
    by-side d (inr h) = (h.0, h.1.0)

  pub side-used : (p : P) (y z : Option (PlacedData P)) (x : PlacedData P) → IsAt s.ours p y → IsAt s.theirs p z → IsOfSide y z x → IsUsed s p
  side-used p y z x at at' (inl e) = let h : HasAt s.ours p x = subst (IsAt s.ours p) e at in subst (IsUsed s) h.1 (place-used s.ours our-list x h.0)
  side-used p y z x at at' (inr e) = let h : HasAt s.theirs p x = subst (IsAt s.theirs p) e at' in subst (IsUsed s) h.1 (place-used s.theirs their-list x h.0)

  pub have-to : (p : P) → IsUsed s p → (x y z : Option (PlacedData P)) → HaveAt s p x y z
      → HaveAt (rename_triple f s) (f p) (option_map (rename f) x) (option_map (rename f) y) (option_map (rename f) z)
  have-to p u x y z at = record {
    base = at-to s.base base-list p u x at.base;
    ours = at-to s.ours our-list p u y at.ours;
    theirs = at-to s.theirs their-list p u z at.theirs;
  }

  leads-used : (p d : P) → LeadsToInMerge s p d → IsUsed s p
  unfolding LeadsBy
  leads-used p d (x, y, z, at, h) = let k = by-side (lockfiles_of s) x y z (is-of s.base p x at.base) (is-of s.ours p y at.ours) (is-of s.theirs p z at.theirs) d h in
      side-used p y z k.0 at.ours at.theirs k.1

  leads-to : (p d : P) → LeadsToInMerge s p d → LeadsToInMerge (rename_triple f s) (f p) (f d)
  unfolding LeadsBy LeadsBy'
  leads-to p d (x, y, z, at, h) =
      let u = leads-used p d (x, y, z, at, h) in
      let rel = by-to (lockfiles_of s) x y z (is-of s.base p x at.base) (is-of s.ours p y at.ours) (is-of s.theirs p z at.theirs) d h in (
        option_map (rename f) x,
        option_map (rename f) y,
        option_map (rename f) z,
        have-to p u x y z at,
        subst (λ (all : Lockfiles). LeadsBy' all (option_map (rename f) x) (option_map (rename f) y) (option_map (rename f) z) (f d)) (sym (lockfiles-same f s)) rel,
      )

  leads-of : (p : P) (q : Q) → IsUsed s p → LeadsToInMerge (rename_triple f s) (f p) q → (d : P) × IsUsed s d × LeadsToInMerge s p d × (f d ≡ q)
  unfolding LeadsBy LeadsBy'
  leads-of p q u (x', y', z', at, h) =
      let x = at-of s.base base-list p u x' at.base in
      let y = at-of s.ours our-list p u y' at.ours in
      let z = at-of s.theirs their-list p u z' at.theirs in
      let h1 = subst (λ (w : Option (PlacedData Q)). LeadsBy' (lockfiles_of (rename_triple f s)) w y' z' q) (sym x.2) h in
      let h2 = subst (λ (w : Option (PlacedData Q)). LeadsBy' (lockfiles_of (rename_triple f s)) (option_map (rename f) x.0) w z' q) (sym y.2) h1 in
      let h3 = subst (λ (w : Option (PlacedData Q)). LeadsBy' (lockfiles_of (rename_triple f s)) (option_map (rename f) x.0) (option_map (rename f) y.0) w q) (sym z.2) h2 in
      let h4 = subst (λ (all : Lockfiles). LeadsBy' all (option_map (rename f) x.0) (option_map (rename f) y.0) (option_map (rename f) z.0) q) (lockfiles-same f s) h3 in
      let k = by-of (lockfiles_of s) x.0 y.0 z.0 (is-of s.base p x.0 x.1) (is-of s.ours p y.0 y.1) (is-of s.theirs p z.0 z.1) q h4 in
      (k.0, k.1, (x.0, y.0, z.0, record { base = x.1; ours = y.1; theirs = z.1 }, k.2), k.3)

  chain-to : (a : P) (chain : List P) (p : P) → IsChain (LeadsToInMerge s) a chain p → IsChain (LeadsToInMerge (rename_triple f s)) (f a) (map f chain) (f p)
  chain-to a [] p h = ap f h
  chain-to a (b ∷ bs) p h = (leads-to a b h.0, chain-to b bs p h.1)

  chain-of : (a : P) (chain : List Q) (q : Q) → IsUsed s a → IsChain (LeadsToInMerge (rename_triple f s)) (f a) chain q
      → (p : P) × (ps : List P) × IsUsed s p × IsChain (LeadsToInMerge s) a ps p × (f p ≡ q)
  chain-of a [] q u h = (a, [], u, refl, h)
  chain-of a (b ∷ bs) q u h =
      let d = leads-of a b u h.0 in
      let k = chain-of d.0 bs q d.1 (subst (λ (w : Q). IsChain (LeadsToInMerge (rename_triple f s)) w bs q) (sym d.3) h.1) in
      (k.0, d.0 ∷ k.1, k.2, (d.2, k.3), k.4)

  reached-to : (p : P) → IsReachedInMerge s p → IsReachedInMerge (rename_triple f s) (f p)
  reached-to p h = (f h.0, map f h.1, (root-iff h.0 (root-used h.0 h.2)).0 h.2, chain-to h.0 h.1 p h.3)

  reached-of : (q : Q) → IsReachedInMerge (rename_triple f s) q → (p : P) × IsReachedInMerge s p × (f p ≡ q)
  reached-of q h =
      let root = root-of h.0 h.2 in
      let k = chain-of root.0 h.1 q (root-used root.0 root.1) (subst (λ (w : Q). IsChain (LeadsToInMerge (rename_triple f s)) w h.1 q) (sym root.2) h.3) in
      (k.0, (root.0, k.1, root.1, k.3), k.4)

  -- ---- the merge

  merged-to : (m : PlacedData P) → IsMergedPackage s m → IsMergedPackage (rename_triple f s) (rename f m)
  merged-to m (x, y, z, c, from) =
      let at = from.at in
      let ob = is-of s.base m.place x at.base in
      let oo = is-of s.ours m.place y at.ours in
      let ot = is-of s.theirs m.place z at.theirs in
      let u = side-used m.place y z c at.ours at.theirs from.chosen.0 in (
        option_map (rename f) x,
        option_map (rename f) y,
        option_map (rename f) z,
        rename f c,
        record {
          at = have-to m.place u x y z at;
          chosen = subst (λ (all : Lockfiles). IsChosen all (option_map (rename f) x) (option_map (rename f) y) (option_map (rename f) z) (rename f c)) (sym (lockfiles-same f s))
              (chosen-to f (lockfiles_of s) x y z c from.chosen);
          identity = from.identity;
          checksum = checksum-to x y z c m.content.checksum from.checksum;
          dependencies = λ q. (
            λ h. let d = map-in f m.dependencies q h in
                let dep = (from.dependencies d.0).0 d.1 in
                subst (IsDependencyOf (option_map (rename f) x) (option_map (rename f) y) (option_map (rename f) z) (rename f c)) d.2
                ((dependency-iff x y z ob oo ot c d.0 (depends-is-used y z oo ot d.0 (own-depends x y z c d.0 dep))).0 dep),
            λ h. let d = dependency-named x y z ob oo ot c q h in
                subst (Contains (map f m.dependencies)) d.3 (in-map f m.dependencies d.0 ((from.dependencies d.0).1 d.2)),
          );
          replacement = replacement-to x y z c m.replacement from.replacement;
        },
      )

  merged-used : (m : PlacedData P) → IsMergedPackage s m → IsUsed s m.place
  merged-used m (x, y, z, c, from) = side-used m.place y z c from.at.ours from.at.theirs from.chosen.0

  one-to : (ms : List (PlacedData P)) → ((x : PlacedData P) → Contains ms x → IsMergedPackage s x) → HasOneAtEach ms → HasOneAtEach (rename_all f ms)
  one-to [] each one i j d lt low e = absurd (omega (arith, low))
  one-to (m ∷ ms) each one i j d lt low e =
      let long = length-map (m ∷ ms) (rename f) in
      let low' : j < length (m ∷ ms) = omega (arith, low, long) in
      let low'' : i < length (m ∷ ms) = omega (arith, low', lt) in
      let x = get_or (m ∷ ms) i m in
      let y = get_or (m ∷ ms) j m in
      let ex = get_or-map (rename f) (m ∷ ms) i m d low'' in
      let ey = get_or-map (rename f) (m ∷ ms) j m d low' in
      let ux = merged-used x (each x (Contains-get_or (m ∷ ms) i m low'')) in
      let uy = merged-used y (each y (Contains-get_or (m ∷ ms) j m low')) in
      one i j m lt low' (inj x.place y.place ux uy
      (ap (λ (z : PlacedData Q). z.place) (sym ex) ∙ e ∙ ap (λ (z : PlacedData Q). z.place) ey))

  -- a merge whose places are renamed is a merge of lists whose places are
  pub merge-renamed : (ms : List (PlacedData P)) → IsMerge s ms → IsMerge (rename_triple f s) (rename_all f ms)
  merge-renamed ms h = record {
    one = one-to ms h.each h.one;
    holds = λ q. (
      λ k. let x = map-in (rename f) ms k.0 k.1.0 in
          subst (IsReachedInMerge (rename_triple f s)) (ap (λ (z : PlacedData Q). z.place) x.2 ∙ k.1.1) (reached-to x.0.place ((h.holds x.0.place).0 (x.0, (x.1, refl)))),
      λ r. let p = reached-of q r in
          let x = (h.holds p.0).1 p.1 in
          (rename f x.0, (in-map (rename f) ms x.0 x.1.0, ap f x.1.1 ∙ p.2)),
    );
    each = λ y k. let x = map-in (rename f) ms y k in subst (IsMergedPackage (rename_triple f s)) x.2 (merged-to x.0 (h.each x.0 x.1));
  }

  -- ---- conflicts

  disputed-cast : {X : Type 0} (a a' : X) (b b' c c' : Option X) → a ≡ a' → b ≡ b' → c ≡ c' → IsDisputed a b c → IsDisputed a' b' c'
  disputed-cast {X = X} a a' b b' c c' ea eb ec h =
      subst (λ (w : Option X). IsDisputed a' b' w) ec (subst (λ (w : Option X). IsDisputed a' w c) eb (subst (λ (w : X). IsDisputed w b c) ea h))

  checksum-disputed : (b o t : Option (PlacedData P)) (x : PlacedData P) → IsChecksumConflict b o t x
      → IsChecksumConflict (option_map (rename f) b) (option_map (rename f) o) (option_map (rename f) t) (rename f x)
  checksum-disputed b o t x h = two-cast _ _ _ _ _ _ (checksum-map x b) (checksum-map x o) (checksum-map x t) h

  disputed-map : (b : Option P) (o t : Option (Option P)) → IsUsedIf b → IsUsedBoth o → IsUsedBoth t → IsDisputed b o t → IsDisputed (option_map f b) (option_map (option_map f) o) (option_map (option_map f) t)
  unfolding IsUsedBoth
  disputed-map b None None ub uo ut h = absurd h
  disputed-map b None (Some t) ub uo ut h = absurd h
  disputed-map b (Some o) None ub uo ut h = absurd h
  disputed-map b (Some o) (Some t) ub uo ut h = record {
    apart = λ e. h.apart (used-once o t (uo o refl) (ut t refl) e);
    ours = λ e. h.ours (used-once o b (uo o refl) ub e);
    theirs = λ e. h.theirs (used-once t b (ut t refl) ub e);
  }

  replacement-disputed : (b o t : Option (PlacedData P)) → IsOf s.base b → IsOf s.ours o → IsOf s.theirs t → (x : PlacedData P) → IsReplacementConflict b o t x
      → IsReplacementConflict (option_map (rename f) b) (option_map (rename f) o) (option_map (rename f) t) (rename f x)
  replacement-disputed b o t ob oo ot x h =
      let g = λ (y : PlacedData Q). y.replacement in
      let g' = λ (y : PlacedData P). y.replacement in
      disputed-cast _ _ _ _ _ _
      (replaced-if-map (if_same x b) ∙ ap replacement_if (sym (if-same-map x b)))
      (replaced-map (if_same x o) ∙ ap (option_map g) (sym (if-same-map x o)))
      (replaced-map (if_same x t) ∙ ap (option_map g) (sym (if-same-map x t)))
      (disputed-map (replacement_if (if_same x b)) (option_map g' (if_same x o)) (option_map g' (if_same x t))
      (used-if s.base base-list x b ob) (used-both s.ours our-list x o oo) (used-both s.theirs their-list x t ot) h)

  -- a conflict is one at the renamed place
  pub conflict-renamed : (c : MatterData P) → IsMatter s c → IsMatter (rename_triple f s) (rename_matter f c)
  conflict-renamed (OfPackage p) (r, (x, y, z, at, (clash, none))) = (
    reached-to p r,
    (
      option_map (rename f) x,
      option_map (rename f) y,
      option_map (rename f) z,
      have-to p (side-used p y z clash.one at.ours at.theirs clash.of_side) x y z at,
      (
        subst (λ (all : Lockfiles). IsClash all (option_map (rename f) x) (option_map (rename f) y) (option_map (rename f) z)) (sym (lockfiles-same f s))
            ((clash-same f (lockfiles_of s) x y z).0 clash),
        λ w g side is dispute.
            let k = side-of f y z w side in
            none k.0 g k.1 (ap (λ (v : PlacedData Q). git_in v.content.source) k.2 ∙ is) (subst (λ (all : Lockfiles). IsSourceConflict all g) (lockfiles-same f s) dispute),
      ),
    ),
  )
  conflict-renamed (OfChecksum p) (r, (x, y, z, c, at, chosen, dispute)) = (
    reached-to p r,
    (
      option_map (rename f) x,
      option_map (rename f) y,
      option_map (rename f) z,
      rename f c,
      have-to p (side-used p y z c at.ours at.theirs chosen.0) x y z at,
      subst (λ (all : Lockfiles). IsChosen all (option_map (rename f) x) (option_map (rename f) y) (option_map (rename f) z) (rename f c)) (sym (lockfiles-same f s))
          (chosen-to f (lockfiles_of s) x y z c chosen),
      checksum-disputed x y z c dispute,
    ),
  )
  conflict-renamed (OfReplacement p) (r, (x, y, z, c, at, chosen, dispute)) = (
    reached-to p r,
    (
      option_map (rename f) x,
      option_map (rename f) y,
      option_map (rename f) z,
      rename f c,
      have-to p (side-used p y z c at.ours at.theirs chosen.0) x y z at,
      subst (λ (all : Lockfiles). IsChosen all (option_map (rename f) x) (option_map (rename f) y) (option_map (rename f) z) (rename f c)) (sym (lockfiles-same f s))
          (chosen-to f (lockfiles_of s) x y z c chosen),
      replacement-disputed x y z (is-of s.base p x at.base) (is-of s.ours p y at.ours) (is-of s.theirs p z at.theirs) c dispute,
    ),
  )
  conflict-renamed (OfVersion p) (r, (x, y, z, c, at, chosen, h)) = (
    reached-to p r,
    (
      option_map (rename f) x,
      option_map (rename f) y,
      option_map (rename f) z,
      rename f c,
      have-to p (side-used p y z c at.ours at.theirs chosen.0) x y z at,
      subst (λ (all : Lockfiles). IsChosen all (option_map (rename f) x) (option_map (rename f) y) (option_map (rename f) z) (rename f c)) (sym (lockfiles-same f s))
          (chosen-to f (lockfiles_of s) x y z c chosen),
      versions-to f x y z h,
    ),
  )
  conflict-renamed (OfLostChecksum p) (r, (x, y, z, c, at, chosen, h)) = (
    reached-to p r,
    (
      option_map (rename f) x,
      option_map (rename f) y,
      option_map (rename f) z,
      rename f c,
      have-to p (side-used p y z c at.ours at.theirs chosen.0) x y z at,
      subst (λ (all : Lockfiles). IsChosen all (option_map (rename f) x) (option_map (rename f) y) (option_map (rename f) z) (rename f c)) (sym (lockfiles-same f s))
          (chosen-to f (lockfiles_of s) x y z c chosen),
      lost-to x y z c h,
    ),
  )
  conflict-renamed (OfSource g) ((p, r, (x, y, z, c, at, side, is)), dispute) = (
    (
      f p,
      reached-to p r,
      (
        option_map (rename f) x,
        option_map (rename f) y,
        option_map (rename f) z,
        rename f c,
        have-to p (side-used p y z c at.ours at.theirs side) x y z at,
        side-to f y z c side,
        is,
      ),
    ),
    subst (λ (all : Lockfiles). IsSourceConflict all g) (sym (lockfiles-same f s)) dispute,
  )

-- a reference is one between the renamed places
pub reference-renamed : {P Q : Type 0} (f : P → Q) (side : List (PlacedData P)) (x y : PlacedData P) → HasReference side x y → HasReference (rename_all f side) (rename f x) (rename f y)
reference-renamed f side x y h = record {
  from = rename f h.from;
  from_at = (in-map (rename f) side h.from h.from_at.0, ap f h.from_at.1);
  same = h.same;
  depends = in-map f h.from.dependencies y.place h.depends;
  to = rename f h.to;
  to_at = (in-map (rename f) side h.to h.to_at.0, ap f h.to_at.1);
  target = h.target;
}
