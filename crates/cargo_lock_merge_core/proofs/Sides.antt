-- Laws of the merge: its sides may be exchanged, and what is merged comes from a side.
use Rattle.std.proofs.Common.{◌≡◌, ◌⊎◌, ◌++◌, inl, inr, List, [], ◌∷◌, Option, Some, None, option_map, refl, sym, ap, subst, ◌∙◌}
use Rattle.std.specs.List.{Contains}
use Rattle.cargo_lock_parts.specs.Identity.{PackageData, identity_key}
use Rattle.lists.proofs.Searches.{chain-on}
use Rattle.cargo_lock_merge_core.specs.Choices.{AreAbove, AreOfGit, DependsOn, HasTwoNewVersions, IsByRule, IsChosen, IsClash, IsDependencyOf, IsOfSide, IsVersionDecisive}
use Rattle.cargo_lock_merge_core.specs.Commits.{IsAtMergedCommit, Lockfiles}
use Rattle.lists.specs.Chains.{IsChain}
use Rattle.cargo_lock_merge_core.specs.Merge.{HaveAt, IsMerge, IsMergedPackage, IsReachedInMerge, LeadsToInMerge, Triple, lockfiles_of}
use Rattle.cargo_lock_merge_core.specs.Placed.{HasAt, IsAt, PlacedData, key, key_if}
use Rattle.cargo_lock_merge_core.specs.Rule3.{IsAgreed, IsDisputed, IsInConflict, IsKept, IsMergedValue}
use Rattle.cargo_lock_merge_core.specs.Merge.{MatterData, OfPackage, OfChecksum, OfReplacement, OfSource, OfVersion, OfLostChecksum, IsMatter, IsMovedReference}
use Rattle.cargo_lock_merge_core.specs.Commits.{IsSourceConflict}
use Rattle.cargo_lock_parts.specs.SourceKey.{Key}
use Rattle.cargo_lock_merge_core.proofs.OnlyValue.{only-flip, two-flip}

agreed-flip : {X : Type 0} (b o t x : X) → IsAgreed b o t x → IsAgreed b t o x
agreed-flip b o t x (inl h) = inl (sym h.0, h.1 ∙ h.0)
agreed-flip b o t x (inr (inl h)) = inr (inr h)
agreed-flip b o t x (inr (inr h)) = inr (inl h)

conflict-flip : {X : Type 0} (b o t : X) → IsInConflict b o t → IsInConflict b t o
conflict-flip b o t h = record { apart = λ e. h.apart (sym e); ours = h.theirs; theirs = h.ours }

value-flip : {X : Type 0} (b : X) (o t : Option X) (x : X) → IsMergedValue b o t x → IsMergedValue b t o x
value-flip b None None x h = h
value-flip b (Some o) None x h = h
value-flip b None (Some t) x h = h
value-flip b (Some o) (Some t) x h = agreed-flip b o t x h

kept-flip : {b o t : Type 0} → IsKept b o t → IsKept b t o
kept-flip (inl h) = inl (h.1, h.0)
kept-flip (inr (inl o, none)) = inr (inr o, none)
kept-flip (inr (inr t, none)) = inr (inl t, none)

or-flip : {A B : Type 0} → A ⊎ B → B ⊎ A
or-flip (inl a) = inr a
or-flip (inr b) = inl b

pub kept-of : {b o t : Type 0} → IsKept b o t → o ⊎ t
kept-of (inl both) = inl both.0
kept-of (inr one) = one.0

-- the lockfiles with the sides exchanged
turn : Lockfiles → Lockfiles
turn all = record { base = all.base; ours = all.theirs; theirs = all.ours }

commit-flip : (all : Lockfiles) (p : PackageData) → IsAtMergedCommit all p → IsAtMergedCommit (turn all) p
unfolding turn
commit-flip all p (g, is, (x, y, z, are, v)) =
    (g, is, (x, z, y, record { base = are.base; ours = are.theirs; theirs = are.ours }, value-flip x (option_map Some y) (option_map Some z) (Some _) v))

commit-back : (all : Lockfiles) (p : PackageData) → IsAtMergedCommit (turn all) p → IsAtMergedCommit all p
unfolding turn
commit-back all p (g, is, (x, y, z, are, v)) =
    (g, is, (x, z, y, record { base = are.base; ours = are.theirs; theirs = are.ours }, value-flip x (option_map Some y) (option_map Some z) (Some _) v))

module _ {P : Type 0} where
  side-flip : (o t : Option (PlacedData P)) (x : PlacedData P) → IsOfSide o t x → IsOfSide t o x
  side-flip o t x h = or-flip h

  git-flip : (o t : Option (PlacedData P)) → AreOfGit o t → AreOfGit t o
  git-flip o t (x, s, g) = (x, or-flip s, g)

  above-flip : (b : Option (PlacedData P)) (o t : PlacedData P) → AreAbove b o t → AreAbove b t o
  above-flip None o t h = h
  above-flip (Some b) o t h = (h.1, h.0)

  decisive-flip : (b : Option (PlacedData P)) (o t : PlacedData P) → IsVersionDecisive b o t → IsVersionDecisive b t o
  decisive-flip b o t (inl h) = inl (record { ours = h.theirs; theirs = h.ours; above = above-flip b o t h.above })
  decisive-flip b o t (inr h) = inr (record { old = h.old; base = h.base; sourceless = h.sourceless; ours = h.theirs; theirs = h.ours })

  versions-flip : (b o t : Option (PlacedData P)) → HasTwoNewVersions b o t → HasTwoNewVersions b t o
  versions-flip b None None h = h
  versions-flip b (Some o) None h = absurd h
  versions-flip b None (Some t) h = absurd h
  versions-flip b (Some o) (Some t) (are, changed) = (
    record { old = are.old; base = are.base; sourceless = are.sourceless; ours = are.theirs; theirs = are.ours },
    conflict-flip (key_if b) (Some (key o)) (Some (key t)) changed,
  )

  rule-flip : (b o t : Option (PlacedData P)) (x : PlacedData P) → IsByRule b o t x → IsByRule b t o x
  rule-flip b None None x h = h
  rule-flip b (Some o) None x h = h
  rule-flip b None (Some t) x h = h
  rule-flip b (Some o) (Some t) x (inl h) = inl (agreed-flip (key_if b) (Some (key o)) (Some (key t)) (Some (key x)) h)
  rule-flip b (Some o) (Some t) x (inr h) = inr (
    record {
      changed = conflict-flip (key_if b) (Some (key o)) (Some (key t)) h.0.changed;
      decisive = decisive-flip b o t h.0.decisive;
    },
    or-flip h.1,
  )

  chosen-flip : (all : Lockfiles) (b o t : Option (PlacedData P)) (x : PlacedData P) → IsChosen all b o t x → IsChosen (turn all) b t o x
  chosen-flip all b o t x (s, inl h) = (
    or-flip s,
    inl (
      git-flip o t h.0,
      record {
        this = commit-flip all x.content h.1.this;
        others = λ y at a. h.1.others y (or-flip at) (commit-back all y.content a);
      },
    ),
  )
  chosen-flip all b o t x (s, inr h) = (or-flip s, inr (λ g. h.0 (git-flip t o g), rule-flip b o t x h.1))

  chosen-back : (all : Lockfiles) (b o t : Option (PlacedData P)) (x : PlacedData P) → IsChosen (turn all) b t o x → IsChosen all b o t x
  chosen-back all b o t x (s, inl h) = (
    or-flip s,
    inl (
      git-flip t o h.0,
      record {
        this = commit-back all x.content h.1.this;
        others = λ y at a. h.1.others y (or-flip at) (commit-flip all y.content a);
      },
    ),
  )
  chosen-back all b o t x (s, inr h) = (or-flip s, inr (λ g. h.0 (git-flip o t g), rule-flip b t o x h.1))

  clash-flip : (all : Lockfiles) (b o t : Option (PlacedData P)) → IsClash all b o t → IsClash (turn all) b t o
  clash-flip all b o t h = record { one = h.one; of_side = or-flip h.of_side; none = λ x c. h.none x (chosen-back all b o t x c) }

  depends-flip : (b o t : Option (PlacedData P)) (x : PlacedData P) (d : P) → IsDependencyOf b o t x d → IsDependencyOf b t o x d
  depends-flip b None None x d h = or-flip h
  depends-flip b (Some o) None x d h = or-flip h
  depends-flip b None (Some t) x d h = or-flip h
  depends-flip b (Some o) (Some t) x d (inl h) = inl (h.1, h.0, kept-flip h.2)
  depends-flip b (Some o) (Some t) x d (inr (inl h)) = inr (inr h)
  depends-flip b (Some o) (Some t) x d (inr (inr h)) = inr (inl h)

  flipped : Triple P → Triple P
  flipped s = record { base = s.base; ours = s.theirs; theirs = s.ours }

  at-flip : (s : Triple P) (p : P) (x y z : Option (PlacedData P)) → HaveAt s p x y z → HaveAt (flipped s) p x z y
  unfolding flipped
  at-flip s p x y z h = record { base = h.base; ours = h.theirs; theirs = h.ours }

  pub chain-flip : (a b : P → P → Type 0) → ((p d : P) → a p d → b p d) → (p : P) (chain : List P) (q : P) → IsChain a p chain q → IsChain b p chain q
  chain-flip a b to p [] q h = h
  chain-flip a b to p (r ∷ rs) q h = (to p r h.0, chain-flip a b to r rs q h.1)

  leads-flip : (s : Triple P) (p d : P) → LeadsToInMerge s p d → LeadsToInMerge (flipped s) p d
  unfolding flipped turn
  leads-flip s p d (x, y, z, at, inl (inl h)) = (x, z, y, at-flip s p x y z at, inl (inl (h.0, chosen-flip (lockfiles_of s) x y z h.0 h.1, depends-flip x y z h.0 d h.2)))
  leads-flip s p d (x, y, z, at, inl (inr h)) = (x, z, y, at-flip s p x y z at, inl (inr (clash-flip (lockfiles_of s) x y z h.0, or-flip h.1)))
  leads-flip s p d (x, y, z, at, inr h) = (x, z, y, at-flip s p x y z at, inr (h.0, chosen-flip (lockfiles_of s) x y z h.0 h.1, value-flip _ _ _ (Some d) h.2))

  reached-flip : (s : Triple P) (p : P) → IsReachedInMerge s p → IsReachedInMerge (flipped s) p
  unfolding flipped
  reached-flip s p h = (h.0, h.1, kept-flip h.2, chain-flip (LeadsToInMerge s) (LeadsToInMerge (flipped s)) (leads-flip s) h.0 h.1 p h.3)

  merged-flip : (s : Triple P) (m : PlacedData P) → IsMergedPackage s m → IsMergedPackage (flipped s) m
  unfolding flipped turn
  merged-flip s m (x, y, z, c, h) = (
    x,
    z,
    y,
    c,
    record {
      at = at-flip s m.place x y z h.at;
      chosen = chosen-flip (lockfiles_of s) x y z c h.chosen;
      identity = h.identity;
      checksum = only-flip _ _ _ m.content.checksum h.checksum;
      dependencies = λ d. (λ k. depends-flip x y z c d ((h.dependencies d).0 k), λ k. (h.dependencies d).1 (depends-flip x z y c d k));
      replacement = value-flip _ _ _ m.replacement h.replacement;
    },
  )

  pub merge-flip : (s : Triple P) (m : List (PlacedData P)) → IsMerge s m → IsMerge (record { base = s.base; ours = s.theirs; theirs = s.ours }) m
  unfolding flipped
  merge-flip s m h = record {
    one = h.one;
    holds = λ p. (λ k. reached-flip s p ((h.holds p).0 k), λ k. (h.holds p).1 (reached-flip (flipped s) p k));
    each = λ x k. merged-flip s x (h.each x k);
  }

  -- ---- what is merged comes from a side

  pub side-at : (s : Triple P) (p : P) (x y z : Option (PlacedData P)) (c : PlacedData P) → HaveAt s p x y z → IsOfSide y z c → HasAt s.ours p c ⊎ HasAt s.theirs p c
  side-at s p x y z c at (inl e) = inl (subst (IsAt s.ours p) e at.ours)
  side-at s p x y z c at (inr e) = inr (subst (IsAt s.theirs p) e at.theirs)

  pub package-side : (s : Triple P) (m : List (PlacedData P)) (x : PlacedData P) → IsMerge s m → Contains m x
      → ((y : PlacedData P) × HasAt s.ours x.place y × (key y ≡ key x)) ⊎ ((y : PlacedData P) × HasAt s.theirs x.place y × (key y ≡ key x))
  package-side s m x h among =
      let k = h.each x among in
      let f = k.4 in
      let same = ap identity_key (sym f.identity) in
      elim (side-at s x.place k.0 k.1 k.2 k.3 f.at f.chosen.0) [ inl o ↦ inl (k.3, o, same) | inr t ↦ inr (k.3, t, same) ]

  own-depends : (b o t : Option (PlacedData P)) (x : PlacedData P) (d : P) → IsDependencyOf b o t x d → DependsOn o d ⊎ DependsOn t d
  own-depends b None None x d h = h
  own-depends b (Some o) None x d h = h
  own-depends b None (Some t) x d h = h
  own-depends b (Some o) (Some t) x d (inl h) = kept-of h.2
  own-depends b (Some o) (Some t) x d (inr (inl h)) = inr h.1
  own-depends b (Some o) (Some t) x d (inr (inr h)) = inl h.1

  depends-at : (xs : List (PlacedData P)) (p : P) (o : Option (PlacedData P)) (d : P) → IsAt xs p o → DependsOn o d → (y : PlacedData P) × HasAt xs p y × Contains y.dependencies d
  depends-at xs p None d at h = absurd h
  depends-at xs p (Some y) d at h = (y, at, h)

  pub dependency-side : (s : Triple P) (m : List (PlacedData P)) (x : PlacedData P) (d : P) → IsMerge s m → Contains m x → Contains x.dependencies d
      → ((y : PlacedData P) × HasAt s.ours x.place y × Contains y.dependencies d) ⊎ ((y : PlacedData P) × HasAt s.theirs x.place y × Contains y.dependencies d)
  dependency-side s m x d h among k =
      let f = h.each x among in
      elim (own-depends f.0 f.1 f.2 f.3 d ((f.4.dependencies d).0 k)) [
        | inl o ↦ inl (depends-at s.ours x.place f.1 d f.4.at.ours o)
        | inr t ↦ inr (depends-at s.theirs x.place f.2 d f.4.at.theirs t)
      ]

  pub merge-closed : (s : Triple P) (m : List (PlacedData P)) (x : PlacedData P) (d : P) → IsMerge s m → Contains m x → Contains x.dependencies d → (y : PlacedData P) × HasAt m d y
  merge-closed s m x d h among k =
      let r = (h.holds x.place).0 (x, (among, refl)) in
      let f = h.each x among in
      let leads : LeadsToInMerge s x.place d = (f.0, f.1, f.2, f.4.at, inl (inl (f.3, f.4.chosen, (f.4.dependencies d).0 k))) in
      (h.holds d).1 (r.0, r.1 ++ d ∷ [], r.2, chain-on (LeadsToInMerge s) r.0 r.1 x.place d r.3 leads)

-- ---- conflicts and moved references

disputed-flip : {X : Type 0} (b : X) (o t : Option X) → IsDisputed b o t → IsDisputed b t o
disputed-flip b None None h = h
disputed-flip b (Some o) None h = h
disputed-flip b None (Some t) h = h
disputed-flip b (Some o) (Some t) h = conflict-flip b o t h

source-flip : (all : Lockfiles) (g : Key) → IsSourceConflict all g → IsSourceConflict (turn all) g
unfolding turn
source-flip all g (x, y, z, are, d) = (x, z, y, record { base = are.base; ours = are.theirs; theirs = are.ours }, disputed-flip x (option_map Some y) (option_map Some z) d)

source-back : (all : Lockfiles) (g : Key) → IsSourceConflict (turn all) g → IsSourceConflict all g
unfolding turn
source-back all g (x, y, z, are, d) = (x, z, y, record { base = are.base; ours = are.theirs; theirs = are.ours }, disputed-flip x (option_map Some y) (option_map Some z) d)

module _ {P : Type 0} where
  pub conflict-turned : (s : Triple P) (c : MatterData P) → IsMatter s c → IsMatter (record { base = s.base; ours = s.theirs; theirs = s.ours }) c
  unfolding flipped turn
  conflict-turned s (OfPackage p) (reached, (x, y, z, at, (clash, none))) =
      (reached-flip s p reached, (x, z, y, at-flip s p x y z at, (clash-flip (lockfiles_of s) x y z clash, λ w g side is k. none w g (or-flip side) is (source-back (lockfiles_of s) g k))))
  conflict-turned s (OfChecksum p) (reached, (x, y, z, c, at, chosen, d)) =
      (reached-flip s p reached, (x, z, y, c, at-flip s p x y z at, chosen-flip (lockfiles_of s) x y z c chosen, two-flip _ _ _ d))
  conflict-turned s (OfReplacement p) (reached, (x, y, z, c, at, chosen, d)) =
      (reached-flip s p reached, (x, z, y, c, at-flip s p x y z at, chosen-flip (lockfiles_of s) x y z c chosen, disputed-flip _ _ _ d))
  conflict-turned s (OfVersion p) (reached, (x, y, z, c, at, chosen, h)) =
      (reached-flip s p reached, (x, z, y, c, at-flip s p x y z at, chosen-flip (lockfiles_of s) x y z c chosen, versions-flip x y z h))
  conflict-turned s (OfLostChecksum p) (reached, (x, y, z, c, at, chosen, h)) =
      (reached-flip s p reached, (x, z, y, c, at-flip s p x y z at, chosen-flip (lockfiles_of s) x y z c chosen, (h.0, h.1, or-flip h.2)))
  conflict-turned s (OfSource g) ((p, reached, (x, y, z, c, at, side, is)), d) =
      ((p, reached-flip s p reached, (x, z, y, c, at-flip s p x y z at, or-flip side, is)), source-flip (lockfiles_of s) g d)

  pub moved-turned : (s : Triple P) (m : List (PlacedData P)) (x y : PlacedData P) → IsMovedReference s m x y
      → IsMovedReference (record { base = s.base; ours = s.theirs; theirs = s.ours }) m x y
  moved-turned s m x y h = record { from = h.from; to = h.to; depends = h.depends; sourced = h.sourced; ours = h.theirs; theirs = h.ours }
