-- A merge by places of one type is one by places of another, where the places are renamed one to one.
use Rattle.std.proofs.Common.{◌≡◌, ◌↔◌, inl, inr, Option, Some, None, option_map, refl, sym, ap, subst, ◌∙◌}
use Rattle.std.proofs.lemmas.Option.{same_Some}
use Rattle.cargo_lock_merge_core.specs.Choices.{AreOfGit, AreOfMember, HasTwoNewVersions, IsByCommit, IsByRule, IsChosen, IsClash, IsOfGit, IsOfSide, IsVersionDecisive}
use Rattle.cargo_lock_merge_core.specs.Commits.{IsAtMergedCommit, Lockfiles}
use Rattle.cargo_lock_merge_core.specs.Placed.{PlacedData, key, key_if}
use Rattle.cargo_lock_merge_core.specs.Renaming.{rename}

module _ {P Q : Type 0} (f : P → Q) where
  -- ---- what the packages of a place are

  some-of : (o : Option (PlacedData P)) (x : PlacedData Q) → option_map (rename f) o ≡ Some x → (y : PlacedData P) × (o ≡ Some y) × (rename f y ≡ x)
  some-of None x e = absurd cc
  some-of (Some y) x e = (y, refl, same_Some (rename f y) x e)

  pub side-of : (o t : Option (PlacedData P)) (x : PlacedData Q) → IsOfSide (option_map (rename f) o) (option_map (rename f) t) x → (y : PlacedData P) × IsOfSide o t y × (rename f y ≡ x)
  side-of o t x (inl e) = let k = some-of o x e in (k.0, inl k.1, k.2)
  side-of o t x (inr e) = let k = some-of t x e in (k.0, inr k.1, k.2)

  pub side-to : (o t : Option (PlacedData P)) (y : PlacedData P) → IsOfSide o t y → IsOfSide (option_map (rename f) o) (option_map (rename f) t) (rename f y)
  side-to o t y (inl e) = inl (ap (option_map (rename f)) e)
  side-to o t y (inr e) = inr (ap (option_map (rename f)) e)

  git-same : (o t : Option (PlacedData P)) → AreOfGit o t ↔ AreOfGit (option_map (rename f) o) (option_map (rename f) t)
  git-same o t = (
    λ (x, s, g). (rename f x, side-to o t x s, g),
    λ (x, s, g). let k = side-of o t x s in (k.0, k.1, subst (λ (z : PlacedData Q). IsOfGit z.content) (sym k.2) g),
  )

  pub key-same : (o : Option (PlacedData P)) → key_if (option_map (rename f) o) ≡ key_if o
  key-same None = refl
  key-same (Some x) = refl

  module _ (all : Lockfiles) (b o t : Option (PlacedData P)) where
    commit-same : (x : PlacedData P) → IsByCommit all o t x ↔ IsByCommit all (option_map (rename f) o) (option_map (rename f) t) (rename f x)
    commit-same x = (
      λ h. record {
        this = h.this;
        others = λ y s a. let k = side-of o t y s in
            ap (λ (z : PlacedData Q). key z) (sym k.2) ∙ h.others k.0 k.1 (subst (λ (z : PlacedData Q). IsAtMergedCommit all z.content) (sym k.2) a);
      },
      λ h. record { this = h.this; others = λ y s a. h.others (rename f y) (side-to o t y s) a },
    )

  member-to : (b o t : PlacedData P) → AreOfMember (Some b) o t → AreOfMember (Some (rename f b)) (rename f o) (rename f t)
  member-to b o t h = record {
    old = rename f b;
    base = refl;
    sourceless = subst (λ (z : PlacedData P). z.content.source ≡ None) (sym (same_Some b h.old h.base)) h.sourceless;
    ours = h.ours;
    theirs = h.theirs;
  }

  decisive-to : (b : Option (PlacedData P)) (o t : PlacedData P) → IsVersionDecisive b o t → IsVersionDecisive (option_map (rename f) b) (rename f o) (rename f t)
  decisive-to None o t (inl h) = inl (record { ours = h.ours; theirs = h.theirs; above = h.above })
  decisive-to None o t (inr h) = let e = h.base in absurd (cc e)
  decisive-to (Some b) o t (inl h) = inl (record { ours = h.ours; theirs = h.theirs; above = h.above })
  decisive-to (Some b) o t (inr h) = inr (member-to b o t h)

  decisive-of : (b : Option (PlacedData P)) (o t : PlacedData P) → IsVersionDecisive (option_map (rename f) b) (rename f o) (rename f t) → IsVersionDecisive b o t
  decisive-of None o t (inl h) = inl (record { ours = h.ours; theirs = h.theirs; above = h.above })
  decisive-of None o t (inr h) = let e = h.base in absurd (cc e)
  decisive-of (Some b) o t (inl h) = inl (record { ours = h.ours; theirs = h.theirs; above = h.above })
  decisive-of (Some b) o t (inr h) = inr (record {
    old = b;
    base = refl;
    sourceless = subst (λ (z : PlacedData Q). z.content.source ≡ None) (sym (same_Some (rename f b) h.old h.base)) h.sourceless;
    ours = h.ours;
    theirs = h.theirs;
  })

  pub versions-to : (b o t : Option (PlacedData P)) → HasTwoNewVersions b o t → HasTwoNewVersions (option_map (rename f) b) (option_map (rename f) o) (option_map (rename f) t)
  versions-to b None t h = absurd h
  versions-to b (Some o) None h = absurd h
  versions-to None (Some o) (Some t) (are, changed) = let e = are.base in absurd (cc e)
  versions-to (Some b) (Some o) (Some t) (are, changed) = (member-to b o t are, changed)

  rule-same : (b o t : Option (PlacedData P)) (x : PlacedData P) → IsByRule b o t x ↔ IsByRule (option_map (rename f) b) (option_map (rename f) o) (option_map (rename f) t) (rename f x)
  rule-same b None None x = (λ h. h, λ h. h)
  rule-same b (Some o) None x = (λ h. h, λ h. h)
  rule-same b None (Some t) x = (λ h. h, λ h. h)
  rule-same None (Some o) (Some t) x = (
    λ h. elim h [ inl a ↦ inl a | inr v ↦ inr (record { changed = v.0.changed; decisive = decisive-to None o t v.0.decisive }, v.1) ],
    λ h. elim h [ inl a ↦ inl a | inr v ↦ inr (record { changed = v.0.changed; decisive = decisive-of None o t v.0.decisive }, v.1) ],
  )
  rule-same (Some b) (Some o) (Some t) x = (
    λ h. elim h [ inl a ↦ inl a | inr v ↦ inr (record { changed = v.0.changed; decisive = decisive-to (Some b) o t v.0.decisive }, v.1) ],
    λ h. elim h [ inl a ↦ inl a | inr v ↦ inr (record { changed = v.0.changed; decisive = decisive-of (Some b) o t v.0.decisive }, v.1) ],
  )

  module _ (all : Lockfiles) (b o t : Option (PlacedData P)) where
    pub chosen-to : (x : PlacedData P) → IsChosen all b o t x → IsChosen all (option_map (rename f) b) (option_map (rename f) o) (option_map (rename f) t) (rename f x)
    chosen-to x (s, inl h) = (side-to o t x s, inl ((git-same o t).0 h.0, (commit-same all b o t x).0 h.1))
    chosen-to x (s, inr h) = (side-to o t x s, inr (λ g. h.0 ((git-same o t).1 g), (rule-same b o t x).0 h.1))

    chosen-back : (x : PlacedData P) → IsOfSide o t x → IsChosen all (option_map (rename f) b) (option_map (rename f) o) (option_map (rename f) t) (rename f x) → IsChosen all b o t x
    chosen-back x s (s', inl h) = (s, inl ((git-same o t).1 h.0, (commit-same all b o t x).1 h.1))
    chosen-back x s (s', inr h) = (s, inr (λ g. h.0 ((git-same o t).0 g), (rule-same b o t x).1 h.1))

    pub chosen-of : (x : PlacedData Q) → IsChosen all (option_map (rename f) b) (option_map (rename f) o) (option_map (rename f) t) x
        → (y : PlacedData P) × IsChosen all b o t y × (rename f y ≡ x)
    chosen-of x h =
        let k = side-of o t x h.0 in
        (k.0, chosen-back k.0 k.1 (subst (IsChosen all (option_map (rename f) b) (option_map (rename f) o) (option_map (rename f) t)) (sym k.2) h), k.2)

    pub clash-same : IsClash all b o t ↔ IsClash all (option_map (rename f) b) (option_map (rename f) o) (option_map (rename f) t)
    clash-same = (
      λ h. record { one = rename f h.one; of_side = side-to o t h.one h.of_side; none = λ x c. let k = chosen-of x c in h.none k.0 k.1 },
      λ h. let k = side-of o t h.one h.of_side in record { one = k.0; of_side = k.1; none = λ x c. h.none (rename f x) (chosen-to x c) },
    )
