-- A merge has no conflict; what both sides have stays, and what one took away is gone.
use Rattle.std.proofs.Common.{◌≡◌, ◌⊎◌, inl, inr, List, get_or, Option, Some, None, option_map, refl, sym, ap, subst, ◌∙◌}
use Rattle.std.specs.List.{Contains}
use Rattle.std.proofs.lemmas.Bool.{cases_order}
use Rattle.std.proofs.lemmas.List.{get_or_default}
use Rattle.std.proofs.lemmas.Option.{same_Some}
use Rattle.cargo_lock_merge_core.specs.Choices.{DependsOn, IsOfSide, if_same, replacement_if}
use Rattle.cargo_lock_merge_core.specs.Merge.{OfPackage, OfChecksum, OfReplacement, HaveAt, IsMatter, IsMerge, IsMergedFrom, IsMergedPackage, Triple, lockfiles_of}
use Rattle.cargo_lock_merge_core.specs.Placed.{HasAt, HasOneAtEach, IsAt, PlacedData, key}
use Rattle.cargo_lock_merge_core.specs.Rule3.{IsDisputed, IsKept, IsMergedValue}
use Rattle.cargo_lock_merge_core.proofs.Agreeing.{agreed-apart}
use Rattle.cargo_lock_merge_core.proofs.Once.{checksum-alike, chosen-once, replacement-alike}
use Rattle.cargo_lock_merge_core.proofs.OnlyValue.{only-apart}

pub value-apart : {X : Type 0} (b : X) (o t : Option X) (v : X) → IsMergedValue b o t v → ¬ IsDisputed b o t
value-apart b None None v k d = d
value-apart b (Some o) None v k d = d
value-apart b None (Some t) v k d = d
value-apart b (Some o) (Some t) v k d = agreed-apart b o t v k d

gone : {b o t : Type 0} → b → (¬ o) ⊎ (¬ t) → ¬ IsKept b o t
gone b (inl none) (inl both) = none both.0
gone b (inr none) (inl both) = none both.1
gone b none (inr one) = one.1 b

module _ {P : Type 0} where
  pub one-at : (xs : List (PlacedData P)) → HasOneAtEach xs → (x y : PlacedData P) → Contains xs x → Contains xs y → x.place ≡ y.place → x ≡ y
  one-at xs one x y (k, low, is) (l, low', is') e = elim (cases_order k l) [
    | inl same ↦ sym is ∙ ap (λ n. get_or xs n x) same ∙ get_or_default xs l x y low' ∙ is'
    | inr other ↦ elim other [
      | inl less ↦ absurd (one k l x less low' (ap (λ (z : PlacedData P). z.place) is ∙ e ∙ ap (λ (z : PlacedData P). z.place) (sym (get_or_default xs l x y low' ∙ is'))))
      | inr greater ↦ absurd (one l k y greater low (ap (λ (z : PlacedData P). z.place) is' ∙ sym e ∙ ap (λ (z : PlacedData P). z.place) (sym (get_or_default xs k y x low ∙ is))))
    ]
  ]

  pub at-same : (xs : List (PlacedData P)) → HasOneAtEach xs → (p : P) (a b : Option (PlacedData P)) → IsAt xs p a → IsAt xs p b → a ≡ b
  at-same xs one p None None h k = refl
  at-same xs one p None (Some y) h k = absurd (h y k)
  at-same xs one p (Some x) None h k = absurd (k x h)
  at-same xs one p (Some x) (Some y) h k = ap Some (one-at xs one x y h.0 k.0 (h.1 ∙ sym k.1))

  module _ (s : Triple P) (base : HasOneAtEach s.base) (ours : HasOneAtEach s.ours) (theirs : HasOneAtEach s.theirs) where
    -- what is merged at a place is of what the three have there
    pub from-at : (p : P) (m : PlacedData P) (x y z : Option (PlacedData P)) → m.place ≡ p → HaveAt s p x y z → IsMergedPackage s m → (c : PlacedData P) × IsMergedFrom s x y z c m
    from-at p m x y z here at (x', y', z', c, from) =
        let there = subst (λ q. HaveAt s q x' y' z') here from.at in
        let ex = at-same s.base base p x' x there.base at.base in
        let ey = at-same s.ours ours p y' y there.ours at.ours in
        let ez = at-same s.theirs theirs p z' z there.theirs at.theirs in (
          c,
          subst (λ (w : Option (PlacedData P)). IsMergedFrom s x y w c m) ez
              (subst (λ (w : Option (PlacedData P)). IsMergedFrom s x w z' c m) ey
              (subst (λ (w : Option (PlacedData P)). IsMergedFrom s w y' z' c m) ex from)),
        )

    merged-at : (ms : List (PlacedData P)) (p : P) (x y z : Option (PlacedData P)) → IsMerge s ms → HaveAt s p x y z → ((n : PlacedData P) × HasAt ms p n)
        → (m : PlacedData P) × (c : PlacedData P) × IsMergedFrom s x y z c m
    merged-at ms p x y z h at (n, there) = let k = from-at p n x y z there.1 at (h.each n there.0) in (n, k.0, k.1)

    pub no-package : (ms : List (PlacedData P)) (p : P) → IsMerge s ms → ¬ IsMatter s (OfPackage p)
    no-package ms p h (reached, (x, y, z, at, clash)) =
        let k = merged-at ms p x y z h at ((h.holds p).1 reached) in
        clash.0.none k.1 k.2.chosen

    pub no-checksum : (ms : List (PlacedData P)) (p : P) → IsMerge s ms → ¬ IsMatter s (OfChecksum p)
    no-checksum ms p h (reached, (x, y, z, c, at, chosen, conflict)) =
        let k = merged-at ms p x y z h at ((h.holds p).1 reached) in
        let same = chosen-once (lockfiles_of s) x y z k.1 c k.2.chosen chosen in
        only-apart _ _ _ k.0.content.checksum (checksum-alike k.1 c same x y z k.0.content.checksum k.2.checksum) conflict

    pub no-replacement : (ms : List (PlacedData P)) (p : P) → IsMerge s ms → ¬ IsMatter s (OfReplacement p)
    no-replacement ms p h (reached, (x, y, z, c, at, chosen, conflict)) =
        let k = merged-at ms p x y z h at ((h.holds p).1 reached) in
        let same = chosen-once (lockfiles_of s) x y z k.1 c k.2.chosen chosen in
        value-apart (replacement_if (if_same c x)) (option_map (λ (w : PlacedData P). w.replacement) (if_same c y)) (option_map (λ (w : PlacedData P). w.replacement) (if_same c z))
        k.0.replacement (replacement-alike k.1 c same x y z k.0.replacement k.2.replacement) conflict

    -- ---- what both sides have

    side-key : (y z c : PlacedData P) → key y ≡ key z → IsOfSide (Some y) (Some z) c → (key y ≡ key c) × (key z ≡ key c)
    side-key y z c e (inl h) = let k = ap (λ (w : PlacedData P). key w) (same_Some y c h) in (k, sym e ∙ k)
    side-key y z c e (inr h) = let k = ap (λ (w : PlacedData P). key w) (same_Some z c h) in (e ∙ k, k)

    -- what is merged of two packages of one identity
    pub both-from : (x y z : PlacedData P) → IsMergedPackage s x → HasAt s.ours x.place y → HasAt s.theirs x.place z → key y ≡ key z
        → (b : Option (PlacedData P)) × (c : PlacedData P) × IsAt s.base x.place b × IsMergedFrom s b (Some y) (Some z) c x × (key y ≡ key c) × (key z ≡ key c)
    both-from x y z (b, o, t, c, from) ay az e =
        let eo = at-same s.ours ours x.place o (Some y) from.at.ours ay in
        let et = at-same s.theirs theirs x.place t (Some z) from.at.theirs az in
        let f = subst (λ (w : Option (PlacedData P)). IsMergedFrom s b (Some y) w c x) et (subst (λ (w : Option (PlacedData P)). IsMergedFrom s b w t c x) eo from) in
        let k = side-key y z c e f.chosen.0 in
        (b, c, f.at.base, f, k.0, k.1)

    pub both-stays : (ms : List (PlacedData P)) (x y z : PlacedData P) (d : P) → IsMerge s ms → Contains ms x → HasAt s.ours x.place y → HasAt s.theirs x.place z → key y ≡ key z
        → Contains y.dependencies d → Contains z.dependencies d → Contains x.dependencies d
    both-stays ms x y z d h among ay az e dy dz =
        let k = both-from x y z (h.each x among) ay az e in
        (k.3.dependencies d).1 (inl (inl k.4, inl k.5, inl (dy, dz)))

    pub taken-gone : (ms : List (PlacedData P)) (w x y z : PlacedData P) (d : P) → IsMerge s ms → Contains ms x → HasAt s.ours x.place y → HasAt s.theirs x.place z → key y ≡ key z
        → HasAt s.base x.place w → Contains w.dependencies d → (¬ Contains y.dependencies d) ⊎ (¬ Contains z.dependencies d) → ¬ Contains x.dependencies d
    taken-gone ms w x y z d h among ay az e aw dw none dx =
        let k = both-from x y z (h.each x among) ay az e in
        let eb = at-same s.base base x.place k.0 (Some w) k.2 aw in
        let db : DependsOn k.0 d = subst (λ (o : Option (PlacedData P)). DependsOn o d) (sym eb) dw in
        elim ((k.3.dependencies d).0 dx) [
          | inl kept ↦ gone db none kept.2
          | inr more ↦ elim more [ inl n ↦ n.0 (inl k.4) | inr n ↦ n.0 (inl k.5) ]
        ]
