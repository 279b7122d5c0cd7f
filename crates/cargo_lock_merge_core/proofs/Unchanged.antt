-- A side without changes leaves the other, and equal sides leave both.
use Rattle.std.proofs.Common.{◌≡◌, ◌⊎◌, ◌↔◌, inl, inr, ℕ, Bool, cond, List, Option, Some, None, option_map, refl, sym, ap, subst, ◌∙◌}
use Rattle.std.specs.List.{Contains}
use Rattle.std.proofs.lemmas.Bool.{cases_Bool}
use Rattle.std.proofs.lemmas.Option.{same_Some}
use Rattle.cargo_lock_parts.specs.Identity.{identity_key, identity_of}
use Rattle.cargo_lock_parts.specs.IdentityLaws.{is_same_identity-Decides}
use Rattle.cargo_lock_parts.specs.IdentityOrder.{is_same_identity}
use Rattle.cargo_lock_parts.specs.SourceKey.{Key}
use Rattle.cargo_lock_merge_core.specs.Choices.{IsByRule, IsChecksum, IsChosen, IsDependencyOf, IsOfSide, checksum_if, if_same, replacement_if}
use Rattle.cargo_lock_merge_core.specs.Commits.{HasCommit, IsAtMergedCommit, Lockfiles, IsMergedCommit, commit_in, git_in}
use Rattle.cargo_lock_merge_core.specs.LawsOfMerges.{AgreeAtCommits, AreLockfiles, IsLockfile, IsSoundByPlaces, IsTheMerge, KeepChecksums, triple}
use Rattle.cargo_lock_merge_core.specs.Merge.{IsMerge, IsMergedPackage, Triple, lockfiles_of}
use Rattle.cargo_lock_merge_core.specs.Placed.{HasMember, HasOneAtEach, IsAt, PlacedData, contents_of, key}
use Rattle.cargo_lock_merge_core.specs.Places.{Place}
use Rattle.cargo_lock_merge_core.specs.Rule3.{IsKept, IsMergedValue}
use Rattle.cargo_lock_merge_core.proofs.Alike.{merge-once}
use Rattle.cargo_lock_merge_core.proofs.Deciding.{at-cases, at-option, commit-option, contains-cases}
use Rattle.cargo_lock_merge_core.proofs.Leading.{IsWhole, whole-merge}
use Rattle.cargo_lock_merge_core.proofs.OnlyValue.{Keeps, only-base, only-both, only-cast, only-keeps}
use Rattle.lists.proofs.Members.{in-map}
use Rattle.cargo_lock_merge_core.proofs.Sides.{merge-flip}
use Rattle.cargo_lock_merge_core.proofs.Sourced.{bare-at, commit-once, git-same}
use Rattle.cargo_lock_merge_core.proofs.Soundness.{each-commit, each-one, no-conflict}
use Rattle.cargo_lock_merge_core.proofs.Staying.{from-at, one-at}

-- a merge of lockfiles is the only one
pub the-merge : (s : Triple Place) (x : List (PlacedData Place)) → AreLockfiles s → IsMerge s x → IsTheMerge s x
the-merge s x are h = record {
  merge = h;
  only = λ m k. merge-once s m x (each-one s are) k h;
  agreed = no-conflict s are x h;
}

-- ---- the rule of three

kept-other : {b x : Type 0} → IsKept b x b → x
kept-other (inl both) = both.0
kept-other (inr (inl x, none)) = x
kept-other (inr (inr b, none)) = absurd (none b)

kept-from : {b x : Type 0} → b ⊎ (¬ b) → x → IsKept b x b
kept-from (inl b) x = inl (x, b)
kept-from (inr none) x = inr (inl x, none)

kept-both : {b x : Type 0} → IsKept b x x → x
kept-both (inl both) = both.0
kept-both (inr (inl x, none)) = x
kept-both (inr (inr x, none)) = x

-- ---- values of one identity

pub itself : (x : PlacedData Place) → if_same x (Some x) ≡ Some x
itself x = ap (λ (b : Bool). cond b (Some x) None) ((is_same_identity-Decides (identity_of x.content) (identity_of x.content)).1 refl)

module _ {X : Type 0} (f : PlacedData Place → X) (old : X) (x : PlacedData Place) where
  -- the value where the base is the other side
  value-base : (q : Option (PlacedData Place)) → ((y : PlacedData Place) → q ≡ Some y → old ≡ f y) → IsMergedValue old (option_map f (if_same x (Some x))) (option_map f q) (f x)
  value-base q is = subst (λ (w : Option (PlacedData Place)). IsMergedValue old (option_map f w) (option_map f q) (f x)) (sym (itself x)) (by q is)
    where
      by : (q : Option (PlacedData Place)) → ((y : PlacedData Place) → q ≡ Some y → old ≡ f y) → IsMergedValue old (Some (f x)) (option_map f q) (f x)
      by None is = refl
      by (Some y) is = inr (inr (sym (is y refl), refl))

  -- the value where the sides are equal
  value-both : IsMergedValue old (option_map f (if_same x (Some x))) (option_map f (if_same x (Some x))) (f x)
  value-both = subst (λ (w : Option (PlacedData Place)). IsMergedValue old (option_map f w) (option_map f w) (f x)) (sym (itself x)) (inl (refl, refl))

-- ---- checksums

checksum-base : (o : Option (PlacedData Place)) (x : PlacedData Place) → Keeps (checksum_if (if_same x o)) x.content.checksum → IsChecksum o (Some x) o x x.content.checksum
checksum-base o x keeps = only-cast _ _ _ _ _ _ x.content.checksum refl (ap checksum_if (sym (itself x))) refl (only-base (checksum_if (if_same x o)) x.content.checksum keeps)

checksum-both : (o : Option (PlacedData Place)) (x : PlacedData Place) → Keeps (checksum_if (if_same x o)) x.content.checksum → IsChecksum o (Some x) (Some x) x x.content.checksum
checksum-both o x keeps =
    only-cast _ _ _ _ _ _ x.content.checksum refl (ap checksum_if (sym (itself x))) (ap checksum_if (sym (itself x))) (only-both (checksum_if (if_same x o)) x.content.checksum keeps)

-- a checksum of what has the identity of x is that of a package with it
pub checksum-from : (x : PlacedData Place) (o : Option (PlacedData Place)) (c : List ℕ) → checksum_if (if_same x o) ≡ Some c
    → (y : PlacedData Place) × (o ≡ Some y) × (key y ≡ key x) × (y.content.checksum ≡ Some c)
checksum-from x None c e = absurd (cc e)
checksum-from x (Some y) c e = elim (cases_Bool (is_same_identity (identity_of y.content) (identity_of x.content))) [
  | inl same ↦ (y, refl, (is_same_identity-Decides (identity_of y.content) (identity_of x.content)).0 same, ap (λ (b : Bool). checksum_if (cond b (Some y) None)) (sym same) ∙ e)
  | inr other ↦ let none : None ≡ Some c = ap (λ (b : Bool). checksum_if (cond b (Some y) None)) (sym other) ∙ e in absurd (cc none)
]

-- and the other way round
pub checksum-to : (x y : PlacedData Place) (c : List ℕ) → key y ≡ key x → y.content.checksum ≡ Some c → checksum_if (if_same x (Some y)) ≡ Some c
checksum-to x y c same is = ap (λ (b : Bool). checksum_if (cond b (Some y) None)) ((is_same_identity-Decides (identity_of y.content) (identity_of x.content)).1 same) ∙ is

kept-in : (b x : List (PlacedData Place)) → KeepChecksums b x → (y : PlacedData Place) → Contains x y → (o : Option (PlacedData Place)) → IsAt b y.place o
    → Keeps (checksum_if (if_same y o)) y.content.checksum
kept-in b x keeps y among o at c e =
    let (w, is, same, checksum) = checksum-from y o c e in
    keeps y.place w y (subst (IsAt b y.place) is at) (among, refl) same c checksum

-- ---- a place

depends-base : (b : Option (PlacedData Place)) (x : PlacedData Place) (d : Place) → Contains x.dependencies d ↔ IsDependencyOf b (Some x) b x d
depends-base None x d = (λ h. inl h, λ h. elim h [ inl k ↦ k | inr none ↦ absurd none ])
depends-base (Some y) x d = (
  λ h. inl (inl refl, inr (inl refl), kept-from (contains-cases y.dependencies d) h),
  λ h. elim h [
    | inl k ↦ kept-other k.2
    | inr more ↦ elim more [ inl n ↦ absurd (n.0 (inl refl)) | inr n ↦ n.1 ]
  ],
)

depends-both : (b : Option (PlacedData Place)) (x : PlacedData Place) (d : Place) → Contains x.dependencies d ↔ IsDependencyOf b (Some x) (Some x) x d
depends-both b x d = (
  λ h. inl (inl refl, inl refl, inl (h, h)),
  λ h. elim h [
    | inl k ↦ kept-both k.2
    | inr more ↦ elim more [ inl n ↦ n.1 | inr n ↦ n.1 ]
  ],
)

rule-base : (b : Option (PlacedData Place)) (x : PlacedData Place) → IsByRule b (Some x) b x
rule-base None x = tt
rule-base (Some y) x = inl (inr (inr (refl, refl)))

pub option-cases : {X : Type 0} (o : Option X) → (o ≡ None) ⊎ ((x : X) × (o ≡ Some x))
option-cases None = inl refl
option-cases (Some x) = inr (x, refl)

-- a member is at the place, or none is
member-cases : (xs : List (PlacedData Place)) → HasOneAtEach xs → (p : Place) → HasMember xs p ⊎ (¬ HasMember xs p)
member-cases xs one p = elim (at-cases xs p) [
  | inr none ↦ inr (λ h. none h.0 h.1)
  | inl some ↦ elim (option-cases some.0.content.source) [
    | inl e ↦ inl (some.0, some.1, e)
    | inr other ↦ inr (λ h.
        let none : some.0.content.source ≡ None = subst (λ (z : PlacedData Place). z.content.source ≡ None) (one-at xs one h.0 some.0 h.1.0 some.1.0 (h.1.1 ∙ sym some.1.1)) h.2 in
        absurd (let k = sym none ∙ other.1 in cc k))
  ]
]

module _ (b x : List (PlacedData Place)) (base : IsLockfile b) (side : IsSoundByPlaces x) where
  -- ---- the other side is the base

  with-base : AreLockfiles (triple b x b)
  with-base = record { base = base; ours = side.lockfile; theirs = base }

  module _ (agree : AgreeAtCommits b x) (keeps : KeepChecksums b x) (y : PlacedData Place) (among : Contains x y) (o : Option (PlacedData Place)) (at : IsAt b y.place o) where
    same-git : (w : PlacedData Place) → o ≡ Some w → git_in w.content.source ≡ git_in y.content.source
    same-git w e = git-same w.content y.content
        (bare-at b x base.sources side.lockfile.sources y.place w y (subst (IsAt b y.place) e at) (among, refl))

    this-commit : (g : Key) → git_in y.content.source ≡ Some g → IsMergedCommit (lockfiles_of (triple b x b)) g (commit_in y.content.source)
    this-commit g is =
        let v = commit-option (contents_of b) g in
        (v.0, Some (commit_in y.content.source), v.0, record { base = v.1; ours = (y.content, in-map (λ (z : PlacedData Place). z.content) x y among, (is, refl)); theirs = v.1 }, merged v.0)
      where
        merged : (v : Option (Option (List ℕ))) → IsMergedValue v (Some (Some (commit_in y.content.source))) (option_map Some v) (Some (commit_in y.content.source))
        merged None = refl
        merged (Some c) = inr (inr (refl, refl))

    others-base : (g : Key) → git_in y.content.source ≡ Some g → (w : PlacedData Place) → IsOfSide (Some y) o w → IsAtMergedCommit (lockfiles_of (triple b x b)) w.content → key w ≡ key y
    others-base g is w (inl e) k = ap (λ (z : PlacedData Place). key z) (sym (same_Some y w e))
    others-base g is w (inr e) (g', is', v) =
        let same : g' ≡ g = same_Some g' g (sym is' ∙ same-git w e ∙ is) in
        let v' = subst (λ (q : Key). IsMergedCommit (lockfiles_of (triple b x b)) q (commit_in w.content.source)) same v in
        agree y.place w y (subst (IsAt b y.place) e at) (among, refl) (g', is')
        (commit-once (lockfiles_of (triple b x b)) (each-commit (triple b x b) with-base) g _ _ v' (this-commit g is))

    chosen-base : IsChosen (lockfiles_of (triple b x b)) o (Some y) o y
    chosen-base = (
      inl refl,
      elim (option-cases (git_in y.content.source)) [
        | inl none ↦ inr (
          λ (w, from, (g, is)). elim from [
            | inl e ↦ absurd (let k = sym none ∙ ap (λ (z : PlacedData Place). git_in z.content.source) (same_Some y w e) ∙ is in cc k)
            | inr e ↦ absurd (let k = sym none ∙ sym (same-git w e) ∙ is in cc k)
          ],
          rule-base o y,
        )
        | inr some ↦ inl ((y, inl refl, some), record { this = (some.0, some.1, this-commit some.0 some.1); others = others-base some.0 some.1 })
      ],
    )

    merged-base : IsMergedPackage (triple b x b) y
    merged-base = (
      o,
      Some y,
      o,
      y,
      record {
        at = record { base = at; ours = (among, refl); theirs = at };
        chosen = chosen-base;
        identity = refl;
        checksum = checksum-base o y (kept-in b x keeps y among o at);
        dependencies = λ d. depends-base o y d;
        replacement = value-base (λ z. z.replacement) (replacement_if (if_same y o)) y (if_same y o) (λ w e. ap replacement_if e);
      },
    )

  whole-base : AgreeAtCommits b x → KeepChecksums b x → IsWhole (triple b x b) x
  whole-base agree keeps = record {
    one = side.lockfile.one;
    each = λ y among. let (o, at) = at-option b y.place in merged-base agree keeps y among o at;
    closed = side.closed;
    roots = λ p r. let m = kept-other r in (m.0, m.1);
    needed = λ y among. let r = side.needed y among in (r.0, r.1, kept-from (member-cases b base.one r.0) r.2, r.3);
  }

  pub merge-base : AgreeAtCommits b x → KeepChecksums b x → IsMerge (triple b x b) x
  merge-base agree keeps = whole-merge (triple b x b) (each-one (triple b x b) with-base) x (whole-base agree keeps)

  pub the-other : AgreeAtCommits b x → KeepChecksums b x → IsTheMerge (triple b x b) x × IsTheMerge (triple b b x) x
  the-other agree keeps = (
    the-merge (triple b x b) x with-base (merge-base agree keeps),
    the-merge (triple b b x) x (record { base = base; ours = base; theirs = side.lockfile }) (merge-flip (triple b x b) x (merge-base agree keeps)),
  )

  -- ---- the sides are equal

  with-itself : AreLockfiles (triple b x x)
  with-itself = record { base = base; ours = side.lockfile; theirs = side.lockfile }

  module _ (keeps : KeepChecksums b x) (y : PlacedData Place) (among : Contains x y) (o : Option (PlacedData Place)) (at : IsAt b y.place o) where
    same-side : (w : PlacedData Place) → IsOfSide (Some y) (Some y) w → y ≡ w
    same-side w (inl e) = same_Some y w e
    same-side w (inr e) = same_Some y w e

    both-commit : (g : Key) → git_in y.content.source ≡ Some g → IsMergedCommit (lockfiles_of (triple b x x)) g (commit_in y.content.source)
    both-commit g is =
        let v = commit-option (contents_of b) g in
        let here : HasCommit (contents_of x) g (commit_in y.content.source) = (y.content, in-map (λ (z : PlacedData Place). z.content) x y among, (is, refl)) in
        (v.0, Some (commit_in y.content.source), Some (commit_in y.content.source), record { base = v.1; ours = here; theirs = here }, inl (refl, refl))

    chosen-both : IsChosen (lockfiles_of (triple b x x)) o (Some y) (Some y) y
    chosen-both = (
      inl refl,
      elim (option-cases (git_in y.content.source)) [
        | inl none ↦ inr (λ (w, from, (g, is)). absurd (let k = sym none ∙ ap (λ (z : PlacedData Place). git_in z.content.source) (same-side w from) ∙ is in cc k), inl (inl (refl, refl)))
        | inr some ↦ inl (
          (y, inl refl, some),
          record {
            this = (some.0, some.1, both-commit some.0 some.1);
            others = λ w from k. ap (λ (z : PlacedData Place). key z) (sym (same-side w from));
          },
        )
      ],
    )

    merged-both : IsMergedPackage (triple b x x) y
    merged-both = (
      o,
      Some y,
      Some y,
      y,
      record {
        at = record { base = at; ours = (among, refl); theirs = (among, refl) };
        chosen = chosen-both;
        identity = refl;
        checksum = checksum-both o y (kept-in b x keeps y among o at);
        dependencies = λ d. depends-both o y d;
        replacement = value-both (λ z. z.replacement) (replacement_if (if_same y o)) y;
      },
    )

  whole-both : KeepChecksums b x → IsWhole (triple b x x) x
  whole-both keeps = record {
    one = side.lockfile.one;
    each = λ y among. let (o, at) = at-option b y.place in merged-both keeps y among o at;
    closed = side.closed;
    roots = λ p r. let m = kept-both r in (m.0, m.1);
    needed = λ y among. let r = side.needed y among in (r.0, r.1, inl (r.2, r.2), r.3);
  }

  pub each-side : KeepChecksums b x → IsTheMerge (triple b x x) x
  each-side keeps = the-merge (triple b x x) x with-itself (whole-merge (triple b x x) (each-one (triple b x x) with-itself) x (whole-both keeps))

-- ---- a commit with two versions

-- the other side is the merge only where it keeps the checksums of the base
pub base-kept : (b x : List (PlacedData Place)) → IsLockfile b → IsLockfile x → IsMerge (triple b x b) x → KeepChecksums b x
base-kept b x base side h p w y aw ay same c checksum =
    let (d, from) = from-at (triple b x b) base.one side.one base.one p y (Some w) (Some y) (Some w) ay.1 (record { base = aw; ours = ay; theirs = aw }) (h.each y ay.0) in
    let key-d : key w ≡ key d = same ∙ ap identity_key from.identity in
    only-keeps _ _ _ y.content.checksum from.checksum c (checksum-to d w c key-d checksum)

-- the other side is the merge only where a commit has one version of a package
pub base-agrees : (b x : List (PlacedData Place)) → IsLockfile b → IsLockfile x → IsMerge (triple b x b) x → AgreeAtCommits b x
base-agrees b x base side h p w y aw ay (g, is) e =
    let all : Lockfiles = lockfiles_of (triple b x b) in
    let (c, from) = from-at (triple b x b) base.one side.one base.one p y (Some w) (Some y) (Some w) ay.1 (record { base = aw; ours = ay; theirs = aw }) (h.each y ay.0) in
    let is' : git_in y.content.source ≡ Some g = git-same y.content w.content (bare-at x b side.sources base.sources p y w ay aw) ∙ is in
    let has-w : HasCommit (contents_of b) g (commit_in w.content.source) = (w.content, in-map (λ (z : PlacedData Place). z.content) b w aw.0, (is, refl)) in
    let has-y : HasCommit (contents_of x) g (commit_in y.content.source) = (y.content, in-map (λ (z : PlacedData Place). z.content) x y ay.0, (is', refl)) in
    let at-w : IsMergedCommit all g (commit_in w.content.source) =
    (Some (commit_in w.content.source), Some (commit_in y.content.source), Some (commit_in w.content.source), record { base = has-w; ours = has-y; theirs = has-w }, inr (inl (ap Some (sym e), refl))) in
    elim from.chosen.1 [
      | inl k ↦ k.1.others w (inr refl) (g, is, at-w) ∙ sym (k.1.others y (inl refl) (g, is', subst (IsMergedCommit all g) e at-w))
      | inr k ↦ absurd (k.0 (w, inr refl, (g, is)))
    ]
