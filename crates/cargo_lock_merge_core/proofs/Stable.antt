-- A merge is stable: merged again with a side it stays as it is.
use Rattle.std.proofs.Common.{◌≡◌, ◌⊎◌, ◌↔◌, inl, inr, List, Option, Some, None, option_map, refl, sym, ap, subst, ◌∙◌}
use Rattle.std.specs.Prelude.{IsTrue}
use Rattle.std.specs.List.{Contains}
use Rattle.std.proofs.lemmas.Option.{same_Some}
use Rattle.cargo_lock_parts.specs.Identity.{Identity, IdentityKey, identity_key}
use Rattle.cargo_lock_parts.specs.IdentityOrder.{version_cmp}
use Rattle.cargo_lock_parts.specs.Source.{Kind, Source, is_registry}
use Rattle.cargo_lock_parts.specs.SourceKey.{Key, key_of}
use Rattle.semver.specs.Parse.{Parts}
use Rattle.std.specs.declared.cmp.Ordering.TheVariants.{Less}
use Rattle.cargo_lock_merge_core.specs.Choices.{AreAbove, AreOfGit, Counts, HasLowerVersion, IsByRule, IsChecksum, IsChosen, IsDependencyOf, IsOfRegistry, IsOfSide, IsSourceless, IsVersionDecisive, checksum_if, if_same, replacement_if}
use Rattle.cargo_lock_merge_core.specs.Commits.{IsAtMergedCommit, IsMergedCommit, commit_in, git_in}
use Rattle.cargo_lock_merge_core.specs.LawsOfMerges.{AreLockfiles, IsTheMerge, triple}
use Rattle.cargo_lock_merge_core.specs.Merge.{IsMerge, IsMergedFrom, IsMergedPackage, IsRootOfMerge, Triple, lockfiles_of}
use Rattle.cargo_lock_merge_core.specs.Placed.{HasAt, IsAt, PlacedData, key, key_if}
use Rattle.cargo_lock_merge_core.specs.Places.{Place}
use Rattle.cargo_lock_merge_core.specs.Rule3.{IsAgreed, IsInConflict, IsMergedValue}
use Rattle.cargo_lock_merge_core.proofs.Deciding.{key-cases}
use Rattle.cargo_lock_merge_core.proofs.Leading.{IsThere, IsWhole, merge-needed, merge-refers, whole-merge}
use Rattle.cargo_lock_merge_core.proofs.Once.{checksum-alike, counts-alike, replacement-alike}
use Rattle.lists.proofs.Members.{in-map}
use Rattle.cargo_lock_merge_core.proofs.Sides.{merge-flip}
use Rattle.cargo_lock_merge_core.proofs.Sourced.{bare-at, commit-once, git-same}
use Rattle.cargo_lock_merge_core.proofs.Soundness.{each-commit, each-one, merge-sound, merged-sources, root-member}
use Rattle.cargo_lock_merge_core.proofs.OnlyValue.{only-again, only-cast}
use Rattle.cargo_lock_merge_core.proofs.Unchanged.{itself, option-cases, the-merge}

-- ---- the rule of three

agreed-again : {X : Type 0} (b o t x : X) → IsAgreed b o t x → IsAgreed b x t x
agreed-again b o t x (inl h) = inl (h.1 ∙ h.0, refl)
agreed-again b o t x (inr (inl h)) = inl (h.1, refl)
agreed-again b o t x (inr (inr h)) = inr (inr (h.0, refl))

value-again : {X : Type 0} (b : X) (o t : Option X) (x : X) → IsMergedValue b o t x → IsMergedValue b (Some x) t x
value-again b None None x h = absurd h
value-again b (Some o) None x h = refl
value-again b None (Some t) x h = inl (h, refl)
value-again b (Some o) (Some t) x h = agreed-again b o t x h

-- a value of the merged package is merged again
value-of : {X : Type 0} (f : PlacedData Place → X) (old : X) (o t : Option (PlacedData Place)) (z : PlacedData Place) → IsMergedValue old (option_map f (if_same z o)) (option_map f (if_same z t)) (f z)
    → IsMergedValue old (option_map f (if_same z (Some z))) (option_map f (if_same z t)) (f z)
value-of f old o t z h =
    subst (λ (w : Option (PlacedData Place)). IsMergedValue old (option_map f w) (option_map f (if_same z t)) (f z)) (sym (itself z))
    (value-again old (option_map f (if_same z o)) (option_map f (if_same z t)) (f z) h)

-- the checksum of the merged package is the only one again
checksum-of : (b o t : Option (PlacedData Place)) (z : PlacedData Place) → IsChecksum b o t z z.content.checksum → IsChecksum b (Some z) t z z.content.checksum
checksum-of b o t z h =
    only-cast _ _ _ _ _ _ z.content.checksum refl (ap checksum_if (sym (itself z))) refl
    (only-again (checksum_if (if_same z b)) (checksum_if (if_same z o)) (checksum_if (if_same z t)) z.content.checksum h)

-- ---- what a key says

module _ (x y : PlacedData Place) (e : key x ≡ key y) where
  version-same : x.content.version ≡ y.content.version
  version-same = ap (λ (k : IdentityKey). k.version) e

  registry-same : IsOfRegistry x.content → IsOfRegistry y.content
  registry-same (s, is, registry) = by y.content.source (ap (option_map key_of) (sym is) ∙ ap (λ (k : IdentityKey). k.source) e)
    where
      by : (o : Option Source) → Some (key_of s) ≡ option_map key_of o → (r : Source) × (o ≡ Some r) × IsTrue (is_registry r.kind)
      by None k = absurd (cc k)
      by (Some r) k = (r, refl, subst (λ (q : Kind). IsTrue (is_registry q)) (ap (λ (q : Key). q.kind) (same_Some (key_of s) (key_of r) k)) registry)

  above-same : (b : Option (PlacedData Place)) (t : PlacedData Place) → AreAbove b x t → AreAbove b y t
  above-same None t h = tt
  above-same (Some b) t h = (subst (λ (v : Parts). version_cmp b.content.version v ≡ Less) version-same h.0, h.1)

  sourceless-same : IsSourceless x → IsSourceless y
  sourceless-same none = by y.content.source (ap (option_map key_of) (sym none) ∙ ap (λ (k : IdentityKey). k.source) e)
    where
      by : (o : Option Source) → None ≡ option_map key_of o → o ≡ None
      by None k = refl
      by (Some r) k = absurd (cc k)

  decisive-same : (b : Option (PlacedData Place)) (t : PlacedData Place) → IsVersionDecisive b x t → IsVersionDecisive b y t
  decisive-same b t (inl h) = inl (record { ours = registry-same h.ours; theirs = h.theirs; above = above-same b t h.above })
  decisive-same b t (inr h) = inr (record { old = h.old; base = h.base; sourceless = h.sourceless; ours = sourceless-same h.ours; theirs = h.theirs })

  below-same : (t : PlacedData Place) → HasLowerVersion t x → HasLowerVersion t y
  below-same t h = subst (λ (v : Parts). version_cmp t.content.version v ≡ Less) version-same h

-- ---- a place

-- the package z is merged of those of o and t, with the identity of c
rule-again : (b o t : Option (PlacedData Place)) (c z : PlacedData Place) → key z ≡ key c → IsOfSide o t c → IsByRule b o t c → IsByRule b (Some z) t z
rule-again b None None c z e side h = tt
rule-again b (Some o) None c z e side h = tt
rule-again b None (Some t) c z e (inl is) h = absurd (cc is)
rule-again b None (Some t) c z e (inr is) h = inl (inl (ap Some (e ∙ ap (λ (w : PlacedData Place). key w) (sym (same_Some t c is))), refl))
rule-again b (Some o) (Some t) c z e side (inl h) =
    inl (agreed-again (key_if b) (Some (key o)) (Some (key t)) (Some (key z)) (subst (λ (k : IdentityKey). IsAgreed (key_if b) (Some (key o)) (Some (key t)) (Some k)) (sym e) h))
rule-again b (Some o) (Some t) c z e side (inr (v, inl h)) =
    let same : key o ≡ key z = sym (e ∙ h.1) in
    inr (
      record {
        changed = subst (λ (k : IdentityKey). IsInConflict (key_if b) (Some k) (Some (key t))) same v.changed;
        decisive = decisive-same o z same b t v.decisive;
      },
      inl (below-same o z same t h.0, refl),
    )
rule-again b (Some o) (Some t) c z e side (inr (v, inr h)) = inl (inl (ap Some (e ∙ h.1), refl))

-- one of two packages is that of a side
side-counts : (b : Option (PlacedData Place)) (o t c : PlacedData Place) → IsOfSide (Some o) (Some t) c → ¬ Counts b c o → key t ≡ key c
side-counts b o t c (inl is) none = absurd (none (inl (ap (λ (w : PlacedData Place). key w) (same_Some o c is))))
side-counts b o t c (inr is) none = ap (λ (w : PlacedData Place). key w) (same_Some t c is)

base-cases : (b : Option (PlacedData Place)) (y : PlacedData Place) → (key_if b ≡ Some (key y)) ⊎ (¬ (key_if b ≡ Some (key y)))
base-cases None y = inr (λ k. absurd (cc k))
base-cases (Some b) y = elim (key-cases b y) [ inl k ↦ inl (ap Some k) | inr other ↦ inr (λ k. other (same_Some (key b) (key y) k)) ]

sourceless-cases : (y : PlacedData Place) → IsSourceless y ⊎ (¬ IsSourceless y)
sourceless-cases y = elim (option-cases y.content.source) [
  | inl none ↦ inl none
  | inr some ↦ inr (λ none. let k = sym none ∙ some.1 in absurd (cc k))
]

counts-cases : (b : Option (PlacedData Place)) (x y : PlacedData Place) → Counts b x y ⊎ (¬ Counts b x y)
counts-cases b x y = elim (key-cases y x) [
  | inl e ↦ inl (inl e)
  | inr n ↦ elim (base-cases b y) [
    | inl k ↦ inl (inr (inl k))
    | inr other ↦ elim (sourceless-cases y) [
      | inl none ↦ inl (inr (inr none))
      | inr sourced ↦ inr (λ h. elim h [ inl e ↦ n e | inr more ↦ elim more [ inl k ↦ other k | inr none ↦ sourced none ] ])
    ]
  ]
]

depends-again : (b o t : Option (PlacedData Place)) (c z : PlacedData Place) (d : Place) → key z ≡ key c → IsOfSide o t c → Contains z.dependencies d ↔ IsDependencyOf b o t c d
    → Contains z.dependencies d ↔ IsDependencyOf b (Some z) t z d
depends-again b None None c z d e side has = (λ h. inl h, λ h. elim h [ inl k ↦ k | inr none ↦ absurd none ])
depends-again b (Some o) None c z d e side has = (λ h. inl h, λ h. elim h [ inl k ↦ k | inr none ↦ absurd none ])
depends-again b None (Some t) c z d e (inl is) has = absurd (cc is)
depends-again b None (Some t) c z d e (inr is) has =
    let same : key t ≡ key z = ap (λ (w : PlacedData Place). key w) (same_Some t c is) ∙ sym e in (
      λ h. inl (inl refl, inl same, inl (h, elim (has.0 h) [ inl none ↦ absurd none | inr k ↦ k ])),
      λ h. elim h [
        | inl k ↦ elim k.2 [ inl both ↦ both.0 | inr one ↦ elim one.0 [ inl own ↦ own | inr their ↦ has.1 (inr their) ] ]
        | inr more ↦ elim more [ inl n ↦ absurd (n.0 (inl refl)) | inr n ↦ n.1 ]
      ],
    )
depends-again b (Some o) (Some t) c z d e side has = (
  λ h. elim (has.0 h) [
    | inl k ↦ inl (inl refl, counts-alike c z (sym e) b t k.1, elim k.2 [ inl both ↦ inl (h, both.1) | inr one ↦ inr (inl h, one.1) ])
    | inr more ↦ elim more [
      | inl n ↦ inl (inl refl, inl (side-counts b o t c side n.0 ∙ sym e), inl (h, n.1))
      | inr n ↦ inr (inr (λ k. n.0 (counts-alike z c e b t k), h))
    ]
  ],
  λ h. elim h [
    | inl k ↦ elim k.2 [
      | inl both ↦ both.0
      | inr one ↦ elim one.0 [
        | inl own ↦ own
        | inr their ↦ has.1 (elim (counts-cases b c o) [
          | inl counts ↦ inl (counts, counts-alike z c e b t k.1, inr (inr their, one.1))
          | inr none ↦ inr (inl (none, their))
        ])
      ]
    ]
    | inr more ↦ elim more [ inl n ↦ absurd (n.0 (inl refl)) | inr n ↦ n.1 ]
  ],
)

-- ---- the whole

module _ (s : Triple Place) (are : AreLockfiles s) (m : List (PlacedData Place)) (h : IsMerge s m) where
  -- the sides of the second merge
  again : AreLockfiles (triple s.base m s.theirs)
  again = record { base = are.base; ours = (merge-sound s are m h).lockfile; theirs = are.theirs }

  module _ (b o t : Option (PlacedData Place)) (c z : PlacedData Place) (from : IsMergedFrom s b o t c z) (among : Contains m z) where
    same-key : key z ≡ key c
    same-key = ap identity_key from.identity

    same-source : z.content.source ≡ c.content.source
    same-source = ap (λ (i : Identity). i.source) from.identity

    -- no package of a git source
    git-again : ¬ AreOfGit o t → ¬ AreOfGit (Some z) t
    git-again none (w, inl e, (g, is)) =
        none (c, from.chosen.0, (g, ap git_in (sym same-source ∙ ap (λ (x : PlacedData Place). x.content.source) (same_Some z w e)) ∙ is))
    git-again none (w, inr e, is) = none (w, inr e, is)

    -- z is at the merged commit of its source
    commit-again : (g : Key) → git_in z.content.source ≡ Some g → IsMergedCommit (lockfiles_of s) g (commit_in z.content.source)
        → IsMergedCommit (lockfiles_of (triple s.base m s.theirs)) g (commit_in z.content.source)
    commit-again g is (b', o', t', commits, v) = (
      b',
      Some (commit_in z.content.source),
      t',
      record { base = commits.base; ours = (z.content, in-map (λ (x : PlacedData Place). x.content) m z among, (is, refl)); theirs = commits.theirs },
      value-again b' (option_map Some o') (option_map Some t') (Some (commit_in z.content.source)) v,
    )

    others-again : (g : Key) → git_in z.content.source ≡ Some g → IsMergedCommit (lockfiles_of s) g (commit_in z.content.source)
        → ((y : PlacedData Place) → IsOfSide o t y → IsAtMergedCommit (lockfiles_of s) y.content → key y ≡ key c)
        → (w : PlacedData Place) → IsOfSide (Some z) t w → IsAtMergedCommit (lockfiles_of (triple s.base m s.theirs)) w.content → key w ≡ key z
    others-again g is v others w (inl e) k = ap (λ (x : PlacedData Place). key x) (sym (same_Some z w e))
    others-again g is v others w (inr e) (g', is', v') =
        let at : HasAt s.theirs z.place w = subst (IsAt s.theirs z.place) e from.at.theirs in
        let git : git_in w.content.source ≡ git_in z.content.source = git-same w.content z.content
        (bare-at s.theirs m are.theirs.sources (merged-sources s are m h) z.place w z at (among, refl)) in
        let same : g' ≡ g = same_Some g' g (sym is' ∙ git ∙ is) in
        let at-commit : commit_in w.content.source ≡ commit_in z.content.source =
        commit-once (lockfiles_of (triple s.base m s.theirs)) (each-commit (triple s.base m s.theirs) again) g _ _
        (subst (λ (q : Key). IsMergedCommit (lockfiles_of (triple s.base m s.theirs)) q (commit_in w.content.source)) same v') (commit-again g is v) in
        others w (inr e) (g, git ∙ is, subst (IsMergedCommit (lockfiles_of s) g) (sym at-commit) v) ∙ sym same-key

    chosen-again : IsChosen (lockfiles_of (triple s.base m s.theirs)) b (Some z) t z
    chosen-again = (
      inl refl,
      elim from.chosen.1 [
        | inl k ↦
            let (g, is, v) = k.1.this in
            let here : git_in z.content.source ≡ Some g = ap git_in same-source ∙ is in
            let there = subst (λ (x : Option Source). IsMergedCommit (lockfiles_of s) g (commit_in x)) (sym same-source) v in
            inl ((z, inl refl, (g, here)), record { this = (g, here, commit-again g here there); others = others-again g here there k.1.others })
        | inr k ↦ inr (git-again k.0, rule-again b o t c z same-key from.chosen.0 k.1)
      ],
    )

    from-again : IsMergedFrom (triple s.base m s.theirs) b (Some z) t z z
    from-again = record {
      at = record { base = from.at.base; ours = (among, refl); theirs = from.at.theirs };
      chosen = chosen-again;
      identity = refl;
      checksum = checksum-of b o t z (checksum-alike c z (sym same-key) b o t z.content.checksum from.checksum);
      dependencies = λ d. depends-again b o t c z d same-key from.chosen.0 (from.dependencies d);
      replacement = value-of (λ x. x.replacement) (replacement_if (if_same z b)) o t z (replacement-alike c z (sym same-key) b o t z.replacement from.replacement);
    }

  package-again : (z : PlacedData Place) → Contains m z → IsMergedPackage (triple s.base m s.theirs) z
  package-again z among = let (b, o, t, c, from) = h.each z among in (b, Some z, t, z, from-again b o t c z from among)

  -- the roots are the same
  root-there : (p : Place) → IsRootOfMerge (triple s.base m s.theirs) p → IsThere m p
  root-there p (inl both) = (both.0.0, both.0.1)
  root-there p (inr (inl ours, none)) = (ours.0, ours.1)
  root-there p (inr (inr theirs, none)) = let r = root-member s are m h p (inr (inr theirs, none)) in (r.0, r.1)

  root-again : (p : Place) → IsRootOfMerge s p → IsRootOfMerge (triple s.base m s.theirs) p
  root-again p (inl both) = inl (root-member s are m h p (inl both), both.1)
  root-again p (inr one) = inr (inl (root-member s are m h p (inr one)), one.1)

  whole-again : IsWhole (triple s.base m s.theirs) m
  whole-again = record {
    one = h.one;
    each = package-again;
    closed = merge-refers s m h;
    roots = root-there;
    needed = λ x among. let r = merge-needed s m h (each-one s are) x among in (r.0, r.1, root-again r.0 r.2, r.3);
  }

  pub merge-again : IsTheMerge (triple s.base m s.theirs) m
  merge-again = the-merge (triple s.base m s.theirs) m again (whole-merge (triple s.base m s.theirs) (each-one (triple s.base m s.theirs) again) m whole-again)

-- the same with the other side
pub merge-again-theirs : (s : Triple Place) → AreLockfiles s → (m : List (PlacedData Place)) → IsMerge s m → IsTheMerge (triple s.base s.ours m) m
merge-again-theirs s are m h =
    let turned = merge-again (triple s.base s.theirs s.ours) (record { base = are.base; ours = are.theirs; theirs = are.ours }) m (merge-flip s m h) in
    the-merge (triple s.base s.ours m) m (record { base = are.base; ours = are.ours; theirs = (merge-sound s are m h).lockfile })
    (merge-flip (triple s.base m s.ours) m turned.merge)
