-- Two listings of the same packages at their places have the same merge and the same conflicts.
use Rattle.std.proofs.Common.{◌≡◌, ◌∙◌, ◌⊎◌, ◌↔◌, inl, inr, ℕ, Bool, true, false, cond, List, Option, Some, None, ap, option_map, refl, slice_get, subst, sym, is_none}
use Rattle.std.specs.Prelude.{◌||◌, count_by, nat_lt}
use Rattle.std.specs.List.{Contains}
use Rattle.std.specs.declared.cmp.Ordering.TheVariants.{Less}
use Rattle.std.proofs.lemmas.Option.{same_Some}
use Rattle.cargo_lock_parts.specs.Identity.{Identity, PackageData, identity_key, identity_of}
use Rattle.cargo_lock_parts.specs.IdentityOrder.{is_same_identity, version_cmp}
use Rattle.cargo_lock_parts.specs.SourceKey.{Key}
use Rattle.cargo_lock_merge_core.specs.ByPlaces.{AreAllPlaced}
use Rattle.cargo_lock_merge_core.specs.Choices.{AreAbove, AreOfGit, AreOfMember, Counts, DependsOn, HasLostChecksum, HasLowerVersion, HasTwoNewVersions, HasNoChecksumFor, IsByCommit, IsByRule, IsChecksum, IsChecksumConflict, IsChosen, IsClash, IsDependency, IsDependencyOf, IsGreater, IsOfGit, IsOfRegistry, IsOfSide, IsReplacement, IsReplacementConflict, IsVersionDecisive, checksum_if, if_same, replacement_if}
use Rattle.cargo_lock_edges.specs.Nearest.{key_without_commit}
use Rattle.cargo_lock_merge_core.specs.Commits.{HasCommit, IsAtMergedCommit, IsAtSource, IsCommitIn, IsSourceConflict, Lockfiles, git_in}
use Rattle.cargo_lock_merge_core.specs.Linked.{IsStatedAt}
use Rattle.cargo_lock_merge_core.specs.Listings.{ListingsAreSymmetric, ListingsHaveOneConflict, ListingsHaveOneMerge, ListingsHaveOneMoved, MergeOfListsIsSymmetric, MergeOfListsIsUnique, exchanged_sides}
use Rattle.cargo_lock_merge_core.specs.Merge.{MatterData, HasReference, HaveAt, IsMatter, IsMerge, IsMergedPackage, IsMovedReference, IsReachedInMerge, IsRootOfMerge, LeadsToInMerge, OfChecksum, OfPackage, OfReplacement, OfSource, OfVersion, OfLostChecksum, Triple, lockfiles_of}
use Rattle.cargo_lock_merge_core.specs.Placed.{HasMember, IsAt, PlacedData, contents_of, key, key_if}
use Rattle.cargo_lock_merge_core.specs.Places.{ArePlaced, IsMergeOf, IsPlaceIn, IsPlaced, IsReplacementIn, Place, has_several, is_member_named, merge_place, version_in}
use Rattle.cargo_lock_merge_core.specs.Rule3.{IsAgreed, IsDisputed, IsInConflict, IsMergedValue}
use Rattle.cargo_lock_merge_core.proofs.OnlyValue.{only-cast, two-cast}
use Rattle.cargo_lock_merge_core.proofs.Alike.{merge-once}
use Rattle.cargo_lock_merge_core.proofs.Kept.{kept-alike}
use Rattle.cargo_lock_graph.proofs.EdgesOnce.{target-one}
use Rattle.lists.proofs.Members.{in-map, map-in}
use Rattle.cargo_lock_merge_core.proofs.Relisted.{are-placed}
use Rattle.cargo_lock_merge_core.proofs.Sides.{chain-flip, merge-flip}
use Rattle.cargo_lock_merge_core.proofs.Slotting.{place-stated}

-- ---- rules of three at equal values

agreed-cast : {X : Type 0} (b o t x b' o' t' x' : X) → b ≡ b' → o ≡ o' → t ≡ t' → x ≡ x' → IsAgreed b o t x → IsAgreed b' o' t' x'
agreed-cast {X = X} b o t x b' o' t' x' eb eo et ex h = subst (λ (q : X × X × X × X). IsAgreed q.0 q.1 q.2 q.3) (λ i. (eb i, eo i, et i, ex i)) h

conflict-cast : {X : Type 0} (b o t b' o' t' : X) → b ≡ b' → o ≡ o' → t ≡ t' → IsInConflict b o t → IsInConflict b' o' t'
conflict-cast {X = X} b o t b' o' t' eb eo et h = subst (λ (q : X × X × X). IsInConflict q.0 q.1 q.2) (λ i. (eb i, eo i, et i)) h

value-cast : {X : Type 0} (b b' : X) (o t o' t' : Option X) (c : X) → b ≡ b' → o ≡ o' → t ≡ t' → IsMergedValue b o t c → IsMergedValue b' o' t' c
value-cast {X = X} b b' o t o' t' c eb eo et h = subst (λ (q : X × Option X × Option X). IsMergedValue q.0 q.1 q.2 c) (λ i. (eb i, eo i, et i)) h

dispute-cast : {X : Type 0} (b b' : X) (o t o' t' : Option X) → b ≡ b' → o ≡ o' → t ≡ t' → IsDisputed b o t → IsDisputed b' o' t'
dispute-cast {X = X} b b' o t o' t' eb eo et h = subst (λ (q : X × Option X × Option X). IsDisputed q.0 q.1 q.2) (λ i. (eb i, eo i, et i)) h

-- ---- packages that are the same but for the order of their dependencies

module _ {P : Type 0} where
  pub record IsLike (x y : PlacedData P) : Type 0 where
    pub place : x.place ≡ y.place
    pub content : x.content ≡ y.content
    pub dependencies : (d : P) → Contains x.dependencies d ↔ Contains y.dependencies d
    pub replacement : x.replacement ≡ y.replacement

  like-back : (x y : PlacedData P) → IsLike x y → IsLike y x
  like-back x y h = record {
    place = sym h.place;
    content = sym h.content;
    dependencies = λ d. ((h.dependencies d).1, (h.dependencies d).0);
    replacement = sym h.replacement;
  }

  abbrev pub IsLikeIf : Option (PlacedData P) → Option (PlacedData P) → Type 0
  IsLikeIf None None = Unit {0}
  IsLikeIf None (Some y) = ⊥
  IsLikeIf (Some x) None = ⊥
  IsLikeIf (Some x) (Some y) = IsLike x y

  like-back-if : (x y : Option (PlacedData P)) → IsLikeIf x y → IsLikeIf y x
  like-back-if None None h = h
  like-back-if None (Some y) h = h
  like-back-if (Some x) None h = h
  like-back-if (Some x) (Some y) h = like-back x y h

  pub record AreLike (xs ys : List (PlacedData P)) : Type 0 where
    pub to : (x : PlacedData P) → Contains xs x → (y : PlacedData P) × Contains ys y × IsLike x y
    pub from : (y : PlacedData P) → Contains ys y → (x : PlacedData P) × Contains xs x × IsLike y x

  pub record AreAllLike (s t : Triple P) : Type 0 where
    pub base : AreLike s.base t.base
    pub ours : AreLike s.ours t.ours
    pub theirs : AreLike s.theirs t.theirs

  lists-back : (xs ys : List (PlacedData P)) → AreLike xs ys → AreLike ys xs
  lists-back xs ys h = record { to = h.from; from = h.to }

  pub all-back : (s t : Triple P) → AreAllLike s t → AreAllLike t s
  all-back s t h = record { base = lists-back s.base t.base h.base; ours = lists-back s.ours t.ours h.ours; theirs = lists-back s.theirs t.theirs h.theirs }

  key-like : (x y : PlacedData P) → IsLike x y → key x ≡ key y
  key-like x y h = ap (λ (p : PackageData). identity_key (identity_of p)) h.content

  key-like-if : (x y : Option (PlacedData P)) → IsLikeIf x y → key_if x ≡ key_if y
  key-like-if None None h = refl
  key-like-if None (Some y) h = absurd h
  key-like-if (Some x) None h = absurd h
  key-like-if (Some x) (Some y) h = ap Some (key-like x y h)

  -- ---- lists

  module _ (xs ys : List (PlacedData P)) (h : AreLike xs ys) where
    at-like : (p : P) (o : Option (PlacedData P)) → IsAt xs p o → (q : Option (PlacedData P)) × IsAt ys p q × IsLikeIf o q
    at-like p None none = (None, λ y k. let (x, there, like) = h.from y k.0 in none x (there, sym like.place ∙ k.1), tt)
    at-like p (Some x) at = let (y, there, like) = h.to x at.0 in (Some y, (there, sym like.place ∙ at.1), like)

    member-like : (p : P) → HasMember xs p → HasMember ys p
    member-like p (x, at, none) =
        let (y, there, like) = h.to x at.0 in
        (y, (there, sym like.place ∙ at.1), ap (λ (q : PackageData). q.source) (sym like.content) ∙ none)

    commit-like : (g : Key) (c : Option (List ℕ)) → HasCommit (contents_of xs) g c → HasCommit (contents_of ys) g c
    commit-like g c (p, among, at) =
        let (x, there, is) = map-in (λ (z : PlacedData P). z.content) xs p among in
        let (y, there', like) = h.to x there in
        (y.content, in-map (λ (z : PlacedData P). z.content) ys y there', subst (IsAtSource g c) (sym is ∙ like.content) at)

  commit-in-like : (xs ys : List (PlacedData P)) → AreLike xs ys → (g : Key) (o : Option (Option (List ℕ))) → IsCommitIn (contents_of xs) g o → IsCommitIn (contents_of ys) g o
  commit-in-like xs ys h g None none = λ c k. none c (commit-like ys xs (lists-back xs ys h) g c k)
  commit-in-like xs ys h g (Some c) k = commit-like xs ys h g c k

  module _ (s t : Triple P) (h : AreAllLike s t) where
    merged-commit-like : (p : PackageData) → IsAtMergedCommit (lockfiles_of s) p → IsAtMergedCommit (lockfiles_of t) p
    merged-commit-like p (g, is, (x, y, z, are, v)) = (
      g,
      is,
      (
        x,
        y,
        z,
        record {
          base = commit-in-like s.base t.base h.base g x are.base;
          ours = commit-in-like s.ours t.ours h.ours g y are.ours;
          theirs = commit-in-like s.theirs t.theirs h.theirs g z are.theirs;
        },
        v,
      ),
    )

    source-conflict-like : (g : Key) → IsSourceConflict (lockfiles_of s) g → IsSourceConflict (lockfiles_of t) g
    source-conflict-like g (x, y, z, are, v) = (
      x,
      y,
      z,
      record {
        base = commit-in-like s.base t.base h.base g x are.base;
        ours = commit-in-like s.ours t.ours h.ours g y are.ours;
        theirs = commit-in-like s.theirs t.theirs h.theirs g z are.theirs;
      },
      v,
    )

    have-like : (p : P) (x y z : Option (PlacedData P)) → HaveAt s p x y z
        → (x' : Option (PlacedData P)) × (y' : Option (PlacedData P)) × (z' : Option (PlacedData P)) × HaveAt t p x' y' z' × IsLikeIf x x' × IsLikeIf y y' × IsLikeIf z z'
    have-like p x y z at =
        let (x', bx, lx) = at-like s.base t.base h.base p x at.base in
        let (y', by, ly) = at-like s.ours t.ours h.ours p y at.ours in
        let (z', bz, lz) = at-like s.theirs t.theirs h.theirs p z at.theirs in
        (x', y', z', record { base = bx; ours = by; theirs = bz }, lx, ly, lz)

  -- ---- what the packages of a place are

  some-like : (o q : Option (PlacedData P)) (x : PlacedData P) → IsLikeIf o q → o ≡ Some x → (y : PlacedData P) × (q ≡ Some y) × IsLike x y
  some-like None q x h e = absurd cc
  some-like (Some w) None x h e = absurd h
  some-like (Some w) (Some y) x h e = (y, refl, subst (λ (v : PlacedData P). IsLike v y) (same_Some w x e) h)

  side-like : (y z y' z' : Option (PlacedData P)) (c : PlacedData P) → IsLikeIf y y' → IsLikeIf z z' → IsOfSide y z c → (d : PlacedData P) × IsOfSide y' z' d × IsLike c d
  side-like y z y' z' c ly lz (inl e) = let (d, is, like) = some-like y y' c ly e in (d, inl is, like)
  side-like y z y' z' c ly lz (inr e) = let (d, is, like) = some-like z z' c lz e in (d, inr is, like)

  git-like : (y z y' z' : Option (PlacedData P)) → IsLikeIf y y' → IsLikeIf z z' → AreOfGit y z → AreOfGit y' z'
  git-like y z y' z' ly lz (x, side, git) =
      let (d, side', like) = side-like y z y' z' x ly lz side in
      (d, side', subst IsOfGit like.content git)

  below-like : (x y x' y' : PlacedData P) → IsLike x x' → IsLike y y' → HasLowerVersion x y → HasLowerVersion x' y'
  below-like x y x' y' lx ly h = subst (λ (q : PackageData × PackageData). version_cmp q.0.version q.1.version ≡ Less) (λ i. (lx.content i, ly.content i)) h

  above-like : (b b' : Option (PlacedData P)) (o t o' t' : PlacedData P) → IsLikeIf b b' → IsLike o o' → IsLike t t' → AreAbove b o t → AreAbove b' o' t'
  above-like None None o t o' t' lb lo lt h = h
  above-like None (Some c) o t o' t' lb lo lt h = absurd lb
  above-like (Some b) None o t o' t' lb lo lt h = absurd lb
  above-like (Some b) (Some c) o t o' t' lb lo lt h = (below-like b o c o' lb lo h.0, below-like b t c t' lb lt h.1)

  greater-like : (o t x o' t' x' : PlacedData P) → IsLike o o' → IsLike t t' → IsLike x x' → IsGreater o t x → IsGreater o' t' x'
  greater-like o t x o' t' x' lo lt lx (inl h) = inl (below-like t o t' o' lt lo h.0, sym (key-like x x' lx) ∙ h.1 ∙ key-like o o' lo)
  greater-like o t x o' t' x' lo lt lx (inr h) = inr (below-like o t o' t' lo lt h.0, sym (key-like x x' lx) ∙ h.1 ∙ key-like t t' lt)

  member-like-if : (b b' : Option (PlacedData P)) (o t o' t' : PlacedData P) → IsLikeIf b b' → IsLike o o' → IsLike t t' → AreOfMember b o t → AreOfMember b' o' t'
  member-like-if None b' o t o' t' lb lo lt h = let e = h.base in absurd (cc e)
  member-like-if (Some x) None o t o' t' lb lo lt h = absurd lb
  member-like-if (Some x) (Some y) o t o' t' lb lo lt h = record {
    old = y;
    base = refl;
    sourceless = subst (λ (p : PackageData). p.source ≡ None) lb.content (subst (λ (z : PlacedData P). z.content.source ≡ None) (sym (same_Some x h.old h.base)) h.sourceless);
    ours = subst (λ (p : PackageData). p.source ≡ None) lo.content h.ours;
    theirs = subst (λ (p : PackageData). p.source ≡ None) lt.content h.theirs;
  }

  decisive-like : (b b' : Option (PlacedData P)) (o t o' t' : PlacedData P) → IsLikeIf b b' → IsLike o o' → IsLike t t' → IsVersionDecisive b o t → IsVersionDecisive b' o' t'
  decisive-like b b' o t o' t' lb lo lt (inl h) = inl (record {
    ours = subst IsOfRegistry lo.content h.ours;
    theirs = subst IsOfRegistry lt.content h.theirs;
    above = above-like b b' o t o' t' lb lo lt h.above;
  })
  decisive-like b b' o t o' t' lb lo lt (inr h) = inr (member-like-if b b' o t o' t' lb lo lt h)

  versions-like : (b o t b' o' t' : Option (PlacedData P)) → IsLikeIf b b' → IsLikeIf o o' → IsLikeIf t t' → HasTwoNewVersions b o t → HasTwoNewVersions b' o' t'
  versions-like b None t b' o' t' lb lo lt h = absurd h
  versions-like b (Some o) None b' o' t' lb lo lt h = absurd h
  versions-like b (Some o) (Some t) b' None t' lb lo lt h = absurd lo
  versions-like b (Some o) (Some t) b' (Some v) None lb lo lt h = absurd lt
  versions-like b (Some o) (Some t) b' (Some v) (Some w) lb lo lt (are, changed) = (
    member-like-if b b' o t v w lb lo lt are,
    conflict-cast _ _ _ _ _ _ (key-like-if b b' lb) (ap Some (key-like o v lo)) (ap Some (key-like t w lt)) changed,
  )

  rule-like : (b o t b' o' t' : Option (PlacedData P)) (x x' : PlacedData P) → IsLikeIf b b' → IsLikeIf o o' → IsLikeIf t t' → IsLike x x' → IsByRule b o t x → IsByRule b' o' t' x'
  rule-like b None None b' None None x x' lb lo lt lx h = h
  rule-like b None None b' None (Some w) x x' lb lo lt lx h = absurd lt
  rule-like b None None b' (Some v) t' x x' lb lo lt lx h = absurd lo
  rule-like b None (Some t) b' None None x x' lb lo lt lx h = absurd lt
  rule-like b None (Some t) b' None (Some w) x x' lb lo lt lx h = h
  rule-like b None (Some t) b' (Some v) t' x x' lb lo lt lx h = absurd lo
  rule-like b (Some o) t b' None t' x x' lb lo lt lx h = absurd lo
  rule-like b (Some o) None b' (Some v) None x x' lb lo lt lx h = h
  rule-like b (Some o) None b' (Some v) (Some w) x x' lb lo lt lx h = absurd lt
  rule-like b (Some o) (Some t) b' (Some v) None x x' lb lo lt lx h = absurd lt
  rule-like b (Some o) (Some t) b' (Some v) (Some w) x x' lb lo lt lx (inl h) =
      inl (agreed-cast _ _ _ _ _ _ _ _ (key-like-if b b' lb) (ap Some (key-like o v lo)) (ap Some (key-like t w lt)) (ap Some (key-like x x' lx)) h)
  rule-like b (Some o) (Some t) b' (Some v) (Some w) x x' lb lo lt lx (inr (h, greater)) = inr (
    record {
      changed = conflict-cast _ _ _ _ _ _ (key-like-if b b' lb) (ap Some (key-like o v lo)) (ap Some (key-like t w lt)) h.changed;
      decisive = decisive-like b b' o t v w lb lo lt h.decisive;
    },
    greater-like o t x v w x' lo lt lx greater,
  )

  -- ---- what is chosen

  module _ (s t : Triple P) (h : AreAllLike s t) (x y z x' y' z' : Option (PlacedData P)) (lx : IsLikeIf x x') (ly : IsLikeIf y y') (lz : IsLikeIf z z') where
    chosen-by : (c d : PlacedData P) → IsLike c d → (AreOfGit y z × IsByCommit (lockfiles_of s) y z c) ⊎ ((¬ AreOfGit y z) × IsByRule x y z c)
        → (AreOfGit y' z' × IsByCommit (lockfiles_of t) y' z' d) ⊎ ((¬ AreOfGit y' z') × IsByRule x' y' z' d)
    chosen-by c d like (inl (git, by)) = inl (
      git-like y z y' z' ly lz git,
      record {
        this = subst (IsAtMergedCommit (lockfiles_of t)) like.content (merged-commit-like s t h c.content by.this);
        others = λ w side at.
            let (v, side', like') = side-like y' z' y z w (like-back-if y y' ly) (like-back-if z z' lz) side in
            let at' = merged-commit-like t s (all-back s t h) v.content (subst (IsAtMergedCommit (lockfiles_of t)) like'.content at) in
            key-like w v like' ∙ by.others v side' at' ∙ key-like c d like;
      },
    )
    chosen-by c d like (inr (none, by)) = inr (λ git. none (git-like y' z' y z (like-back-if y y' ly) (like-back-if z z' lz) git), rule-like x y z x' y' z' c d lx ly lz like by)

    chosen-like : (c : PlacedData P) → IsChosen (lockfiles_of s) x y z c → (d : PlacedData P) × IsChosen (lockfiles_of t) x' y' z' d × IsLike c d
    chosen-like c (side, by) = let (d, side', like) = side-like y z y' z' c ly lz side in (d, (side', chosen-by c d like by), like)

  clash-like : (s t : Triple P) → AreAllLike s t → (x y z x' y' z' : Option (PlacedData P)) → IsLikeIf x x' → IsLikeIf y y' → IsLikeIf z z' → IsClash (lockfiles_of s) x y z → IsClash (lockfiles_of t) x' y' z'
  clash-like s t h x y z x' y' z' lx ly lz clash =
      let (one, side, like) = side-like y z y' z' clash.one ly lz clash.of_side in
      record {
        one = one;
        of_side = side;
        none = λ d chosen.
            let (c, chosen', like') = chosen-like t s (all-back s t h) x' y' z' x y z (like-back-if x x' lx) (like-back-if y y' ly) (like-back-if z z' lz) d chosen in
            clash.none c chosen';
      }

  -- ---- dependencies

  depends-like : (o q : Option (PlacedData P)) (d : P) → IsLikeIf o q → DependsOn o d → DependsOn q d
  depends-like None None d like h = h
  depends-like None (Some y) d like h = absurd like
  depends-like (Some x) None d like h = absurd like
  depends-like (Some x) (Some y) d like h = (like.dependencies d).0 h

  counts-like : (b b' : Option (PlacedData P)) (x y x' y' : PlacedData P) → IsLikeIf b b' → IsLike x x' → IsLike y y' → Counts b x y → Counts b' x' y'
  counts-like b b' x y x' y' lb lx ly (inl e) = inl (sym (key-like y y' ly) ∙ e ∙ key-like x x' lx)
  counts-like b b' x y x' y' lb lx ly (inr (inl e)) = inr (inl (sym (key-like-if b b' lb) ∙ e ∙ ap Some (key-like y y' ly)))
  counts-like b b' x y x' y' lb lx ly (inr (inr none)) = inr (inr (subst (λ (p : PackageData). p.source ≡ None) ly.content none))

  dependency-like : (b o t b' o' t' : Option (PlacedData P)) (x x' : PlacedData P) (d : P) → IsLikeIf b b' → IsLikeIf o o' → IsLikeIf t t' → IsLike x x'
      → IsDependencyOf b o t x d → IsDependencyOf b' o' t' x' d
  dependency-like b None None b' None None x x' d lb lo lt lx h = h
  dependency-like b None None b' None (Some w) x x' d lb lo lt lx h = absurd lt
  dependency-like b None None b' (Some v) t' x x' d lb lo lt lx h = absurd lo
  dependency-like b None (Some t) b' None None x x' d lb lo lt lx h = absurd lt
  dependency-like b None (Some t) b' None (Some w) x x' d lb lo lt lx (inl h) = absurd h
  dependency-like b None (Some t) b' None (Some w) x x' d lb lo lt lx (inr h) = inr ((lt.dependencies d).0 h)
  dependency-like b None (Some t) b' (Some v) t' x x' d lb lo lt lx h = absurd lo
  dependency-like b (Some o) t b' None t' x x' d lb lo lt lx h = absurd lo
  dependency-like b (Some o) None b' (Some v) None x x' d lb lo lt lx (inl h) = inl ((lo.dependencies d).0 h)
  dependency-like b (Some o) None b' (Some v) None x x' d lb lo lt lx (inr h) = absurd h
  dependency-like b (Some o) None b' (Some v) (Some w) x x' d lb lo lt lx h = absurd lt
  dependency-like b (Some o) (Some t) b' (Some v) None x x' d lb lo lt lx h = absurd lt
  dependency-like b (Some o) (Some t) b' (Some v) (Some w) x x' d lb lo lt lx (inl (co, ct, kept)) = inl (
    counts-like b b' x o x' v lb lx lo co,
    counts-like b b' x t x' w lb lx lt ct,
    kept-alike (depends-like b b' d lb, depends-like b' b d (like-back-if b b' lb)) (lo.dependencies d) (lt.dependencies d) kept,
  )
  dependency-like b (Some o) (Some t) b' (Some v) (Some w) x x' d lb lo lt lx (inr (inl (not, h))) =
      inr (inl (λ c. not (counts-like b' b x' v x o (like-back-if b b' lb) (like-back x x' lx) (like-back o v lo) c), (lt.dependencies d).0 h))
  dependency-like b (Some o) (Some t) b' (Some v) (Some w) x x' d lb lo lt lx (inr (inr (not, h))) =
      inr (inr (λ c. not (counts-like b' b x' w x t (like-back-if b b' lb) (like-back x x' lx) (like-back t w lt) c), (lo.dependencies d).0 h))

  -- ---- checksums and replacements

  same-like : {X : Type 0} (F : Option (PlacedData P) → X) → ((y w : PlacedData P) → IsLike y w → F (Some y) ≡ F (Some w)) → (x x' : PlacedData P) (o q : Option (PlacedData P)) → IsLike x x' → IsLikeIf o q
      → F (if_same x o) ≡ F (if_same x' q)
  same-like F each x x' None None lx lo = refl
  same-like F each x x' None (Some w) lx lo = absurd lo
  same-like F each x x' (Some y) None lx lo = absurd lo
  same-like F each x x' (Some y) (Some w) lx lo =
      (λ i. F (cond (is_same_identity (identity_of (lo.content i)) (identity_of (lx.content i))) (Some y) None)) ∙ by (is_same_identity (identity_of w.content) (identity_of x'.content))
    where
      by : (b : Bool) → F (cond b (Some y) None) ≡ F (cond b (Some w) None)
      by true = each y w lo
      by false = refl

  module _ (b o t b' o' t' : Option (PlacedData P)) (x x' : PlacedData P) (lb : IsLikeIf b b') (lo : IsLikeIf o o') (lt : IsLikeIf t t') (lx : IsLike x x') where
    same-checksum : (w w' : Option (PlacedData P)) → IsLikeIf w w' → checksum_if (if_same x w) ≡ checksum_if (if_same x' w')
    same-checksum w w' lw = same-like (λ w. checksum_if w) (λ y w like. ap (λ (p : PackageData). p.checksum) like.content) x x' w w' lx lw

    old-replacement : replacement_if (if_same x b) ≡ replacement_if (if_same x' b')
    old-replacement = same-like (λ w. replacement_if w) (λ y w like. like.replacement) x x' b b' lx lb

    side-replacement : (w w' : Option (PlacedData P)) → IsLikeIf w w' → option_map (λ (y : PlacedData P). y.replacement) (if_same x w) ≡ option_map (λ (y : PlacedData P). y.replacement) (if_same x' w')
    side-replacement w w' lw = same-like (option_map (λ (y : PlacedData P). y.replacement)) (λ y w like. ap Some like.replacement) x x' w w' lx lw

    checksum-like : (c : Option (List ℕ)) → IsChecksum b o t x c → IsChecksum b' o' t' x' c
    checksum-like c h = only-cast _ _ _ _ _ _ c (same-checksum b b' lb) (same-checksum o o' lo) (same-checksum t t' lt) h

    replacement-like : (r : Option P) → IsReplacement b o t x r → IsReplacement b' o' t' x' r
    replacement-like r h = value-cast _ _ _ _ _ _ r old-replacement (side-replacement o o' lo) (side-replacement t t' lt) h

    checksum-dispute-like : IsChecksumConflict b o t x → IsChecksumConflict b' o' t' x'
    checksum-dispute-like h = two-cast _ _ _ _ _ _ (same-checksum b b' lb) (same-checksum o o' lo) (same-checksum t t' lt) h

    lacks-like : (w w' : Option (PlacedData P)) → IsLikeIf w w' → HasNoChecksumFor x w → HasNoChecksumFor x' w'
    lacks-like w w' lw (y, is, none) = by (if_same x' w') refl
      where
        -- whether there is such a package, and whether it has no checksum
        same : option_map (λ (v : PlacedData P). is_none v.content.checksum) (if_same x' w') ≡ Some true
        same = sym (same-like (option_map (λ (v : PlacedData P). is_none v.content.checksum)) (λ y w like. ap (λ (p : PackageData). Some (is_none p.checksum)) like.content) x x' w w' lx lw)
            ∙ ap (option_map (λ (v : PlacedData P). is_none v.content.checksum)) is ∙ ap (λ (c : Option (List ℕ)). Some (is_none c)) none

        absent : (c : Option (List ℕ)) → is_none c ≡ true → c ≡ None
        absent None e = refl
        absent (Some c) e = absurd (cc e)

        by : (o : Option (PlacedData P)) → if_same x' w' ≡ o → HasNoChecksumFor x' w'
        by None e = let n = sym same ∙ ap (option_map (λ (v : PlacedData P). is_none v.content.checksum)) e in absurd (cc n)
        by (Some v) e = (v, e, absent v.content.checksum (same_Some (is_none v.content.checksum) true (sym (ap (option_map (λ (v : PlacedData P). is_none v.content.checksum)) e) ∙ same)))

    lost-like : HasLostChecksum b o t x → HasLostChecksum b' o' t' x'
    lost-like (c, is, lost) = (c, sym (same-checksum b b' lb) ∙ is, elim lost [ inl h ↦ inl (lacks-like o o' lo h) | inr h ↦ inr (lacks-like t t' lt h) ])

    replacement-dispute-like : IsReplacementConflict b o t x → IsReplacementConflict b' o' t' x'
    replacement-dispute-like h = dispute-cast _ _ _ _ _ _ old-replacement (side-replacement o o' lo) (side-replacement t t' lt) h

  -- ---- what is reached

  root-like : (s t : Triple P) → AreAllLike s t → (p : P) → IsRootOfMerge s p → IsRootOfMerge t p
  root-like s t h p root = kept-alike (both s.base t.base h.base) (both s.ours t.ours h.ours) (both s.theirs t.theirs h.theirs) root
    where
      both : (xs ys : List (PlacedData P)) → AreLike xs ys → HasMember xs p ↔ HasMember ys p
      both xs ys like = (member-like xs ys like p, member-like ys xs (lists-back xs ys like) p)

  leads-like : (s t : Triple P) → AreAllLike s t → (p d : P) → LeadsToInMerge s p d → LeadsToInMerge t p d
  leads-like s t h p d (x, y, z, at, how) =
      let (x', y', z', at', lx, ly, lz) = have-like s t h p x y z at in
      (x', y', z', at', by x' y' z' lx ly lz how)
    where
      by : (x' y' z' : Option (PlacedData P)) → IsLikeIf x x' → IsLikeIf y y' → IsLikeIf z z'
          → IsDependency (lockfiles_of s) x y z d ⊎ ((c : PlacedData P) × IsChosen (lockfiles_of s) x y z c × IsReplacement x y z c (Some d))
          → IsDependency (lockfiles_of t) x' y' z' d ⊎ ((c : PlacedData P) × IsChosen (lockfiles_of t) x' y' z' c × IsReplacement x' y' z' c (Some d))
      by x' y' z' lx ly lz (inl (inl (c, chosen, depends))) =
          let (e, chosen', like) = chosen-like s t h x y z x' y' z' lx ly lz c chosen in
          inl (inl (e, chosen', dependency-like x y z x' y' z' c e d lx ly lz like depends))
      by x' y' z' lx ly lz (inl (inr (clash, inl depends))) = inl (inr (clash-like s t h x y z x' y' z' lx ly lz clash, inl (depends-like y y' d ly depends)))
      by x' y' z' lx ly lz (inl (inr (clash, inr depends))) = inl (inr (clash-like s t h x y z x' y' z' lx ly lz clash, inr (depends-like z z' d lz depends)))
      by x' y' z' lx ly lz (inr (c, chosen, replaced)) =
          let (e, chosen', like) = chosen-like s t h x y z x' y' z' lx ly lz c chosen in
          inr (e, chosen', replacement-like x y z x' y' z' c e lx ly lz like (Some d) replaced)

  reached-like : (s t : Triple P) → AreAllLike s t → (p : P) → IsReachedInMerge s p → IsReachedInMerge t p
  reached-like s t h p (root, chain, is, leads) = (root, chain, root-like s t h root is, chain-flip (LeadsToInMerge s) (LeadsToInMerge t) (leads-like s t h) root chain p leads)

  -- ---- the merge and the conflicts

  package-like : (s t : Triple P) → AreAllLike s t → (m : PlacedData P) → IsMergedPackage s m → IsMergedPackage t m
  package-like s t h m (x, y, z, c, from) =
      let (x', y', z', at', lx, ly, lz) = have-like s t h m.place x y z from.at in
      let (e, chosen, like) = chosen-like s t h x y z x' y' z' lx ly lz c from.chosen in (
        x',
        y',
        z',
        e,
        record {
          at = at';
          chosen = chosen;
          identity = from.identity ∙ ap (λ (p : PackageData). identity_of p) like.content;
          checksum = checksum-like x y z x' y' z' c e lx ly lz like m.content.checksum from.checksum;
          dependencies = λ d. (
            λ k. dependency-like x y z x' y' z' c e d lx ly lz like ((from.dependencies d).0 k),
            λ k. (from.dependencies d).1 (dependency-like x' y' z' x y z e c d (like-back-if x x' lx) (like-back-if y y' ly) (like-back-if z z' lz) (like-back c e like) k),
          );
          replacement = replacement-like x y z x' y' z' c e lx ly lz like m.replacement from.replacement;
        },
      )

  pub merge-like : (s t : Triple P) → AreAllLike s t → (m : List (PlacedData P)) → IsMerge s m → IsMerge t m
  merge-like s t h m merge = record {
    one = merge.one;
    holds = λ p. (λ k. reached-like s t h p ((merge.holds p).0 k), λ k. (merge.holds p).1 (reached-like t s (all-back s t h) p k));
    each = λ x among. package-like s t h x (merge.each x among);
  }

  pub conflict-like : (s t : Triple P) → AreAllLike s t → (c : MatterData P) → IsMatter s c → IsMatter t c
  conflict-like s t h (OfPackage p) (r, (x, y, z, at, (clash, none))) =
      let (x', y', z', at', lx, ly, lz) = have-like s t h p x y z at in (
        reached-like s t h p r,
        (
          x',
          y',
          z',
          at',
          (
            clash-like s t h x y z x' y' z' lx ly lz clash,
            λ w g side is dispute.
                let (v, side', like) = side-like y' z' y z w (like-back-if y y' ly) (like-back-if z z' lz) side in
                none v g side' (ap (λ (q : PackageData). git_in q.source) (sym like.content) ∙ is) (source-conflict-like t s (all-back s t h) g dispute),
          ),
        ),
      )
  conflict-like s t h (OfChecksum p) (r, (x, y, z, c, at, chosen, dispute)) =
      let (x', y', z', at', lx, ly, lz) = have-like s t h p x y z at in
      let (e, chosen', like) = chosen-like s t h x y z x' y' z' lx ly lz c chosen in
      (reached-like s t h p r, (x', y', z', e, at', chosen', checksum-dispute-like x y z x' y' z' c e lx ly lz like dispute))
  conflict-like s t h (OfReplacement p) (r, (x, y, z, c, at, chosen, dispute)) =
      let (x', y', z', at', lx, ly, lz) = have-like s t h p x y z at in
      let (e, chosen', like) = chosen-like s t h x y z x' y' z' lx ly lz c chosen in
      (reached-like s t h p r, (x', y', z', e, at', chosen', replacement-dispute-like x y z x' y' z' c e lx ly lz like dispute))
  conflict-like s t h (OfVersion p) (r, (x, y, z, c, at, chosen, changed)) =
      let (x', y', z', at', lx, ly, lz) = have-like s t h p x y z at in
      let (e, chosen', like) = chosen-like s t h x y z x' y' z' lx ly lz c chosen in
      (reached-like s t h p r, (x', y', z', e, at', chosen', versions-like x y z x' y' z' lx ly lz changed))
  conflict-like s t h (OfLostChecksum p) (r, (x, y, z, c, at, chosen, lost)) =
      let (x', y', z', at', lx, ly, lz) = have-like s t h p x y z at in
      let (e, chosen', like) = chosen-like s t h x y z x' y' z' lx ly lz c chosen in
      (reached-like s t h p r, (x', y', z', e, at', chosen', lost-like x y z x' y' z' c e lx ly lz like lost))
  conflict-like s t h (OfSource g) ((p, r, (x, y, z, c, at, side, is)), dispute) =
      let (x', y', z', at', lx, ly, lz) = have-like s t h p x y z at in
      let (e, side', like) = side-like y z y' z' c ly lz side in (
        (p, reached-like s t h p r, (x', y', z', e, at', side', ap (λ (q : PackageData). git_in q.source) (sym like.content) ∙ is)),
        source-conflict-like s t h g dispute,
      )

  reference-like : (xs ys : List (PlacedData P)) → AreLike xs ys → (x y : PlacedData P) → HasReference xs x y → HasReference ys x y
  reference-like xs ys h x y r =
      let (from, there, like) = h.to r.from r.from_at.0 in
      let (to, there', like') = h.to r.to r.to_at.0 in
      record {
        from = from;
        from_at = (there, sym like.place ∙ r.from_at.1);
        same = elim r.same [ inl none ↦ inl none | inr e ↦ inr (sym (key-like r.from from like) ∙ e) ];
        depends = (like.dependencies y.place).0 r.depends;
        to = to;
        to_at = (there', sym like'.place ∙ r.to_at.1);
        target = sym (key-like r.to to like') ∙ r.target;
      }

  pub moved-like : (s t : Triple P) → AreAllLike s t → (m : List (PlacedData P)) (x y : PlacedData P) → IsMovedReference s m x y → IsMovedReference t m x y
  moved-like s t h m x y r = record {
    from = r.from;
    to = r.to;
    depends = r.depends;
    sourced = r.sourced;
    ours = λ k. r.ours (reference-like t.ours s.ours (lists-back s.ours t.ours h.ours) x y k);
    theirs = λ k. r.theirs (reference-like t.theirs s.theirs (lists-back s.theirs t.theirs h.theirs) x y k);
  }

-- ---- two listings are like

module _ (all : Lockfiles) (packages : List PackageData) where
  stated-place : (i : Identity) (j k : ℕ) (a b : PackageData) → IsStatedAt packages i j → IsStatedAt packages i k → slice_get packages j ≡ Some a → slice_get packages k ≡ Some b → merge_place all a ≡ merge_place all b
  stated-place i j k a b sa sb here there =
      let ea : a ≡ sa.0 = same_Some a sa.0 (sym here ∙ sa.1) in
      let eb : b ≡ sb.0 = same_Some b sb.0 (sym there ∙ sb.1) in
      ap (merge_place all) ea
      ∙ place-stated all sa.0 sb.0 (sym sa.2.named.name ∙ sb.2.named.name) (sym sa.2.named.version ∙ sb.2.named.version) (sa.2.source ∙ sym sb.2.source)
      ∙ ap (merge_place all) (sym eb)

  one-place : (i : Identity) (p q : Place) → IsPlaceIn all packages i p → IsPlaceIn all packages i q → p ≡ q
  one-place i p q (j, a, inl sa, here, is) (k, b, inl sb, there, is') = is ∙ stated-place i j k a b sa sb here there ∙ sym is'
  one-place i p q (j, a, inl sa, here, is) (k, b, inr (none, target), there, is') = absurd (none j sa)
  one-place i p q (j, a, inr (none, target), here, is) (k, b, inl sb, there, is') = absurd (none k sb)
  one-place i p q (j, a, inr (none, target), here, is) (k, b, inr (none', target'), there, is') =
      let same : j ≡ k = target-one packages i j k target target' in
      let e : a ≡ b = same_Some a b (sym here ∙ ap (slice_get packages) same ∙ there) in
      is ∙ ap (merge_place all) e ∙ sym is'

  one-replacement : (o : Option Identity) (p q : Option Place) → IsReplacementIn all packages o p → IsReplacementIn all packages o q → p ≡ q
  one-replacement None p q h k = h ∙ sym k
  one-replacement (Some i) None q h k = absurd h
  one-replacement (Some i) (Some p) None h k = absurd k
  one-replacement (Some i) (Some p) (Some q) (j, a, sa, here, is) (k, b, sb, there, is') = ap Some (is ∙ stated-place i j k a b sa sb here there ∙ sym is')

  depends-placed : (p : PackageData) (x y : PlacedData Place) → IsPlaced all packages p x → IsPlaced all packages p y → (d : Place) → Contains x.dependencies d → Contains y.dependencies d
  depends-placed p x y hx hy d depends =
      let (i, listed, at) = hx.dependencies d depends in
      let (e, at', there) = hy.found i listed in
      subst (Contains y.dependencies) (one-place i e d at' at) there

  placed-like : (p : PackageData) (x y : PlacedData Place) → IsPlaced all packages p x → IsPlaced all packages p y → IsLike x y
  placed-like p x y hx hy = record {
    place = hx.place ∙ sym hy.place;
    content = hx.content ∙ sym hy.content;
    dependencies = λ d. (depends-placed p x y hx hy d, depends-placed p y x hy hx d);
    replacement = one-replacement p.replace x.replacement y.replacement hx.replacement hy.replacement;
  }

  list-to : (xs ys : List (PlacedData Place)) → ArePlaced all packages xs → ArePlaced all packages ys → (x : PlacedData Place) → Contains xs x → (y : PlacedData Place) × Contains ys y × IsLike x y
  list-to xs ys hx hy x among =
      let (p, listed, placed) = hx.each x among in
      let (y, there, placed') = hy.all_there p listed in
      (y, there, placed-like p x y placed placed')

  pub lists-like : (xs ys : List (PlacedData Place)) → ArePlaced all packages xs → ArePlaced all packages ys → AreLike xs ys
  lists-like xs ys hx hy = record { to = list-to xs ys hx hy; from = list-to ys xs hy hx }

pub all-like : (all : Lockfiles) (s t : Triple Place) → AreAllPlaced all s → AreAllPlaced all t → AreAllLike s t
all-like all s t hs ht = record {
  base = lists-like all all.base s.base t.base hs.base ht.base;
  ours = lists-like all all.ours s.ours t.ours hs.ours ht.ours;
  theirs = lists-like all all.theirs s.theirs t.theirs hs.theirs ht.theirs;
}

pub one-merge : ListingsHaveOneMerge
one-merge all s t m hs ht merge = merge-like s t (all-like all s t hs ht) m merge

pub one-conflict : ListingsHaveOneConflict
one-conflict all s t c hs ht conflict = conflict-like s t (all-like all s t hs ht) c conflict

pub one-moved : ListingsHaveOneMoved
one-moved all s t m x y hs ht moved = moved-like s t (all-like all s t hs ht) m x y moved

-- ---- lists of packages

lists-of : (all : Lockfiles) (m : List PackageData) (h : IsMergeOf all m) → AreAllPlaced all h.placed
lists-of all m h = record { base = h.base; ours = h.ours; theirs = h.theirs }

pub one-merge-of-lists : MergeOfListsIsUnique
one-merge-of-lists all m n h k =
    merge-once h.placed h.merged k.merged (record { base = h.base.one; ours = h.ours.one; theirs = h.theirs.one }) h.merge
    (one-merge all k.placed h.placed k.merged (lists-of all n k) (lists-of all m h) k.merge)

or-turned : (a b c : Bool) → (a || (b || (c || false))) ≡ (a || (c || (b || false)))
or-turned true b c = refl
or-turned false true true = refl
or-turned false true false = refl
or-turned false false true = refl
or-turned false false false = refl

place-turned : (all : Lockfiles) (p : PackageData) → merge_place all p ≡ merge_place (exchanged_sides all) p
place-turned all p =
    let several : List PackageData → Bool = λ packages. nat_lt 1 (count_by (is_member_named p.name) packages) in
    let same : has_several all p.name ≡ has_several (exchanged_sides all) p.name = or-turned (several all.base) (several all.ours) (several all.theirs) in
    λ i. record {
      name = p.name;
      version = version_in (same i) p.version p.source;
      source = option_map key_without_commit p.source;
    }

pub listings-flip : ListingsAreSymmetric
listings-flip all s h = record {
  base = are-placed all (exchanged_sides all) (place-turned all) all.base s.base h.base;
  ours = are-placed all (exchanged_sides all) (place-turned all) all.theirs s.theirs h.theirs;
  theirs = are-placed all (exchanged_sides all) (place-turned all) all.ours s.ours h.ours;
}

pub merge-of-lists-flip : MergeOfListsIsSymmetric
merge-of-lists-flip all m h =
    let lists = listings-flip all h.placed (lists-of all m h) in
    record {
      placed = record { base = h.placed.base; ours = h.placed.theirs; theirs = h.placed.ours };
      merged = h.merged;
      base = lists.base;
      ours = lists.ours;
      theirs = lists.theirs;
      packages = are-placed all (exchanged_sides all) (place-turned all) m h.merged h.packages;
      merge = merge-flip h.placed h.merged h.merge;
    }
