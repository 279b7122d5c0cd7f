-- One package at a place, and one that is chosen.
use Rattle.std.proofs.Common.{◌≡◌, ◌↔◌, ◌<◌, inl, inr, ℕ, Bool, List, length, get_or, Option, Some, None, option_map, if◌then◌else◌, refl, sym, ap, subst, ◌∙◌, arith, true≢false}
use Rattle.std.specs.List.{Contains}
use Rattle.std.specs.Ordering.{ordering_reverse}
use Rattle.std.proofs.lemmas.Bool.{cases_Bool, cases_order}
use Rattle.std.proofs.lemmas.List.{get_or-map, get_or_default, length-map}
use Rattle.std.proofs.lemmas.Option.{same_Some}
use Rattle.cargo_lock_parts.specs.Identity.{Identity, identity_of}
use Rattle.cargo_lock_parts.specs.IdentityLaws.{is_same_identity-Decides, version_total}
use Rattle.cargo_lock_parts.specs.IdentityOrder.{is_same_identity}
use Rattle.cargo_lock_merge_core.specs.Choices.{Counts, HasLostChecksum, HasLowerVersion, HasNoChecksumFor, IsByRule, IsChecksum, IsChosen, IsDependencyOf, IsGreater, IsOfSide, IsReplacement, checksum_if, if_same, replacement_if}
use Rattle.cargo_lock_merge_core.specs.Commits.{Lockfiles}
use Rattle.cargo_lock_merge_core.specs.Numbered.{IsInOrder, place_number, place_numbers}
use Rattle.cargo_lock_merge_core.specs.Placed.{HasMember, IsAt, PlacedData, key, key_if}
use Rattle.cargo_lock_merge_core.specs.Plans.{IsMemberIf}
use Rattle.cargo_lock_merge_core.specs.Rule3.{IsKept, IsMergedValue}
use Rattle.cargo_lock_merge_core.proofs.Agreeing.{agreed-apart, agreed-once}
use Rattle.cargo_lock_merge_core.proofs.Ascending.{far-below}
use Rattle.cargo_lock_merge_core.proofs.Kept.{kept-alike}
use Rattle.cargo_lock_merge_core.proofs.OnlyValue.{only-cast}

-- ---- one package at a place

module _ (xs : List (PlacedData ℕ)) (up : IsInOrder xs) where
  place-read : (k : ℕ) (x : PlacedData ℕ) → k < length xs → get_or xs k x ≡ x → get_or (place_numbers xs) k 0 ≡ x.place
  place-read k x low is = get_or-map place_number xs k x 0 low ∙ ap place_number is

  far : (i j : ℕ) → i < j → j < length xs → get_or (place_numbers xs) i 0 < get_or (place_numbers xs) j 0
  far i j lt low = far-below (place_numbers xs) up i j lt (omega (arith, low, length-map xs place_number))

  pub one-at : (x y : PlacedData ℕ) → Contains xs x → Contains xs y → x.place ≡ y.place → x ≡ y
  one-at x y (k, low, is) (l, low', is') e =
      let p = place-read k x low is in
      let q = place-read l y low' is' in
      elim (cases_order k l) [
        | inl same ↦ sym is ∙ ap (λ n. get_or xs n x) same ∙ get_or_default xs l x y low' ∙ is'
        | inr other ↦ elim other [
          | inl less ↦ absurd (let h = far k l less low' in omega (arith, h, p, q, e))
          | inr greater ↦ absurd (let h = far l k greater low in omega (arith, h, p, q, e))
        ]
      ]

  pub at-same : (p : ℕ) (a b : Option (PlacedData ℕ)) → IsAt xs p a → IsAt xs p b → a ≡ b
  at-same p None None h k = refl
  at-same p None (Some y) h k = absurd (h y k)
  at-same p (Some x) None h k = absurd (k x h)
  at-same p (Some x) (Some y) h k = ap Some (one-at x y h.0 k.0 (h.1 ∙ sym k.1))

  pub member-same : (p : ℕ) (a : Option (PlacedData ℕ)) → IsAt xs p a → HasMember xs p ↔ IsMemberIf a
  member-same p None h = (λ m. absurd (h m.0 m.1), λ m. absurd m)
  member-same p (Some x) h = (
    λ m. subst (λ (y : PlacedData ℕ). y.content.source ≡ None) (one-at m.0 x m.1.0 h.0 (m.1.1 ∙ sym h.1)) m.2,
    λ m. (x, h, m),
  )

pub kept-iff : {b o t b' o' t' : Type 0} → b ↔ b' → o ↔ o' → t ↔ t' → IsKept b o t ↔ IsKept b' o' t'
kept-iff eb eo et = (λ k. kept-alike eb eo et k, λ k. kept-alike (eb.1, eb.0) (eo.1, eo.0) (et.1, et.0) k)

-- ---- one that is chosen

below-apart : {P : Type 0} → (x y : PlacedData P) → HasLowerVersion x y → ¬ HasLowerVersion y x
below-apart x y h k = let n = version_total.antisymm x.content.version y.content.version ∙ ap ordering_reverse k in absurd (cc (n, h))

greater-once : {P : Type 0} → (o t x y : PlacedData P) → IsGreater o t x → IsGreater o t y → key x ≡ key y
greater-once o t x y (inl h) (inl k) = h.1 ∙ sym k.1
greater-once o t x y (inr h) (inr k) = h.1 ∙ sym k.1
greater-once o t x y (inl h) (inr k) = absurd (below-apart t o h.0 k.0)
greater-once o t x y (inr h) (inl k) = absurd (below-apart o t h.0 k.0)

rule-once : {P : Type 0} → (b : Option (PlacedData P)) (o t x y : PlacedData P) → IsByRule b (Some o) (Some t) x → IsByRule b (Some o) (Some t) y → key x ≡ key y
rule-once b o t x y (inl h) (inl k) = same_Some (key x) (key y) (agreed-once (key_if b) (Some (key o)) (Some (key t)) (Some (key x)) (Some (key y)) h k)
rule-once b o t x y (inl h) (inr k) = absurd (agreed-apart (key_if b) (Some (key o)) (Some (key t)) (Some (key x)) h k.0.changed)
rule-once b o t x y (inr h) (inl k) = absurd (agreed-apart (key_if b) (Some (key o)) (Some (key t)) (Some (key y)) k h.0.changed)
rule-once b o t x y (inr h) (inr k) = greater-once o t x y h.1 k.1

alone : {P : Type 0} → (o : PlacedData P) (x y : PlacedData P) → IsOfSide (Some o) None x → IsOfSide (Some o) None y → key x ≡ key y
alone {P = P} o x y (inl h) (inl k) = ap (λ (z : PlacedData P). key z) (sym (same_Some o x h) ∙ same_Some o y k)
alone {P = P} o x y (inr h) k = absurd cc
alone {P = P} o x y (inl h) (inr k) = absurd cc

alone' : {P : Type 0} → (t : PlacedData P) (x y : PlacedData P) → IsOfSide None (Some t) x → IsOfSide None (Some t) y → key x ≡ key y
alone' {P = P} t x y (inr h) (inr k) = ap (λ (z : PlacedData P). key z) (sym (same_Some t x h) ∙ same_Some t y k)
alone' {P = P} t x y (inl h) k = absurd cc
alone' {P = P} t x y (inr h) (inl k) = absurd cc

by-rule-once : {P : Type 0} → (b o t : Option (PlacedData P)) (x y : PlacedData P) → IsOfSide o t x → IsOfSide o t y → IsByRule b o t x → IsByRule b o t y → key x ≡ key y
by-rule-once b None None x y (inl h) k r q = absurd cc
by-rule-once b None None x y (inr h) k r q = absurd cc
by-rule-once b (Some o) None x y h k r q = alone o x y h k
by-rule-once b None (Some t) x y h k r q = alone' t x y h k
by-rule-once b (Some o) (Some t) x y h k r q = rule-once b o t x y r q

pub chosen-once : {P : Type 0} → (all : Lockfiles) (b o t : Option (PlacedData P)) (x y : PlacedData P) → IsChosen all b o t x → IsChosen all b o t y → key x ≡ key y
chosen-once all b o t x y (at, inl h) (at', inl k) = sym (h.1.others y at' k.1.this)
chosen-once all b o t x y (at, inl h) (at', inr k) = absurd (k.0 h.0)
chosen-once all b o t x y (at, inr h) (at', inl k) = absurd (h.0 k.0)
chosen-once all b o t x y (at, inr h) (at', inr k) = by-rule-once b o t x y at at' h.1 k.1

-- ---- what follows depends on the identity alone

module _ {P : Type 0} (x y : PlacedData P) (e : key x ≡ key y) where
  pub counts-alike : (b : Option (PlacedData P)) (z : PlacedData P) → Counts b x z → Counts b y z
  counts-alike b z (inl h) = inl (h ∙ e)
  counts-alike b z (inr more) = inr more

  same-test : (i : Identity) → is_same_identity i (identity_of x.content) ≡ is_same_identity i (identity_of y.content)
  same-test i =
      let d = is_same_identity-Decides i (identity_of x.content) in
      let d' = is_same_identity-Decides i (identity_of y.content) in
      elim (cases_Bool (is_same_identity i (identity_of x.content))) [
        | inl t ↦ t ∙ sym (d'.1 (d.0 t ∙ e))
        | inr f ↦ elim (cases_Bool (is_same_identity i (identity_of y.content))) [
          | inl t ↦ absurd (true≢false (sym (d.1 (d'.0 t ∙ sym e)) ∙ f))
          | inr f' ↦ f ∙ sym f'
        ]
      ]

  same-if : (o : Option (PlacedData P)) → if_same x o ≡ if_same y o
  same-if None = refl
  same-if (Some z) = ap (λ (b : Bool). if b then Some z else None) (same-test (identity_of z.content))

  pub replacement-alike : (b o t : Option (PlacedData P)) (r : Option P) → IsReplacement b o t x r → IsReplacement b o t y r
  replacement-alike b o t r h =
      subst (λ (w : Option (PlacedData P)). IsMergedValue (replacement_if (if_same y b)) (option_map (λ z. z.replacement) (if_same y o)) (option_map (λ z. z.replacement) w) r) (same-if t)
      (subst (λ (w : Option (PlacedData P)). IsMergedValue (replacement_if (if_same y b)) (option_map (λ z. z.replacement) w) (option_map (λ z. z.replacement) (if_same x t)) r) (same-if o)
      (subst (λ (w : Option (PlacedData P)). IsMergedValue (replacement_if w) (option_map (λ z. z.replacement) (if_same x o)) (option_map (λ z. z.replacement) (if_same x t)) r) (same-if b) h))

  pub checksum-alike : (b o t : Option (PlacedData P)) (c : Option (List ℕ)) → IsChecksum b o t x c → IsChecksum b o t y c
  checksum-alike b o t c h = only-cast _ _ _ _ _ _ c (ap checksum_if (same-if b)) (ap checksum_if (same-if o)) (ap checksum_if (same-if t)) h

  lacks-alike : (o : Option (PlacedData P)) → HasNoChecksumFor x o → HasNoChecksumFor y o
  lacks-alike o (z, is, none) = (z, sym (same-if o) ∙ is, none)

  pub lost-alike : (b o t : Option (PlacedData P)) → HasLostChecksum b o t x → HasLostChecksum b o t y
  lost-alike b o t (c, is, lost) = (c, ap checksum_if (sym (same-if b)) ∙ is, elim lost [ inl h ↦ inl (lacks-alike o h) | inr h ↦ inr (lacks-alike t h) ])

pub depends-alike : {P : Type 0} → (x y : PlacedData P) → key x ≡ key y → (b o t : Option (PlacedData P)) (d : P) → IsDependencyOf b o t x d → IsDependencyOf b o t y d
depends-alike x y e b None None d h = h
depends-alike x y e b (Some o) None d h = h
depends-alike x y e b None (Some t) d h = h
depends-alike x y e b (Some o) (Some t) d (inl h) = inl (counts-alike x y e b o h.0, counts-alike x y e b t h.1, h.2)
depends-alike x y e b (Some o) (Some t) d (inr (inl h)) = inr (inl (λ k. h.0 (counts-alike y x (sym e) b o k), h.1))
depends-alike x y e b (Some o) (Some t) d (inr (inr h)) = inr (inr (λ k. h.0 (counts-alike y x (sym e) b t k), h.1))
