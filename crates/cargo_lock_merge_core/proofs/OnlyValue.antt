-- The only value of three that may be absent.
use Rattle.std.proofs.Common.{◌≡◌, ◌≢◌, ◌⊎◌, inl, inr, Option, Some, None, refl, sym, ap, subst, ◌∙◌}
use Rattle.std.proofs.lemmas.Option.{same_Some}
use Rattle.cargo_lock_merge_core.specs.Rule3.{HaveTwoValues, IsOneOf, IsOnlyValue}

module _ {X : Type 0} where
  -- ---- the sides exchanged

  one-flip : (b o t : Option X) (x : X) → IsOneOf b o t x → IsOneOf b t o x
  one-flip b o t x (inl h) = inl h
  one-flip b o t x (inr (inl h)) = inr (inr h)
  one-flip b o t x (inr (inr h)) = inr (inl h)

  pub only-flip : (b o t v : Option X) → IsOnlyValue b o t v → IsOnlyValue b t o v
  only-flip b o t None h = λ x k. h x (one-flip b t o x k)
  only-flip b o t (Some x) h = (one-flip b o t x h.0, λ y k. h.1 y (one-flip b t o y k))

  pub two-flip : (b o t : Option X) → HaveTwoValues b o t → HaveTwoValues b t o
  two-flip b o t (x, y, hx, hy, apart) = (x, y, one-flip b o t x hx, one-flip b o t y hy, apart)

  -- ---- there is one, or there are two

  pub only-once : (b o t v w : Option X) → IsOnlyValue b o t v → IsOnlyValue b o t w → v ≡ w
  only-once b o t None None h k = refl
  only-once b o t None (Some y) h k = absurd (h y k.0)
  only-once b o t (Some x) None h k = absurd (k x h.0)
  only-once b o t (Some x) (Some y) h k = ap Some (k.1 x h.0)

  pub only-apart : (b o t v : Option X) → IsOnlyValue b o t v → ¬ HaveTwoValues b o t
  only-apart b o t None h (x, y, hx, hy, apart) = h x hx
  only-apart b o t (Some z) h (x, y, hx, hy, apart) = apart (h.1 x hx ∙ sym (h.1 y hy))

  -- ---- other values that are equal

  pub only-cast : (b b' o o' t t' v : Option X) → b ≡ b' → o ≡ o' → t ≡ t' → IsOnlyValue b o t v → IsOnlyValue b' o' t' v
  only-cast b b' o o' t t' v eb eo et h =
      subst (λ (w : Option X). IsOnlyValue b' o' w v) et (subst (λ (w : Option X). IsOnlyValue b' w t v) eo (subst (λ (w : Option X). IsOnlyValue w o t v) eb h))

  pub two-cast : (b b' o o' t t' : Option X) → b ≡ b' → o ≡ o' → t ≡ t' → HaveTwoValues b o t → HaveTwoValues b' o' t'
  two-cast b b' o o' t t' eb eo et h =
      subst (λ (w : Option X). HaveTwoValues b' o' w) et (subst (λ (w : Option X). HaveTwoValues b' w t) eo (subst (λ (w : Option X). HaveTwoValues w o t) eb h))

  -- ---- the merged value as a side

  again-one : (b o t v : Option X) (x : X) → IsOnlyValue b o t v → IsOneOf b v t x → v ≡ Some x
  again-one b o t None x h (inl k) = absurd (h x (inl k))
  again-one b o t None x h (inr (inl k)) = k
  again-one b o t None x h (inr (inr k)) = absurd (h x (inr (inr k)))
  again-one b o t (Some y) x h (inl k) = ap Some (sym (h.1 x (inl k)))
  again-one b o t (Some y) x h (inr (inl k)) = k
  again-one b o t (Some y) x h (inr (inr k)) = ap Some (sym (h.1 x (inr (inr k))))

  pub only-again : (b o t v : Option X) → IsOnlyValue b o t v → IsOnlyValue b v t v
  only-again b o t None h = λ x k. let e = again-one b o t None x h k in absurd (cc e)
  only-again b o t (Some y) h = (inr (inl refl), λ x k. sym (same_Some y x (again-one b o t (Some y) x h k)))

  -- the value is kept that the other one has
  abbrev pub Keeps : Option X → Option X → Type 0
  Keeps b v = (x : X) → b ≡ Some x → v ≡ Some x

  only-of : (b o t v : Option X) → v ≡ o → ((x : X) → IsOneOf b o t x → v ≡ Some x) → IsOnlyValue b o t v
  only-of b o t None e all = λ x k. let n = all x k in absurd (cc n)
  only-of b o t (Some y) e all = (inr (inl (sym e)), λ x k. sym (same_Some y x (all x k)))

  pub only-base : (b v : Option X) → Keeps b v → IsOnlyValue b v b v
  only-base b v keeps = only-of b v b v refl (λ x k. elim k [ inl h ↦ keeps x h | inr one ↦ elim one [ inl h ↦ h | inr h ↦ keeps x h ] ])

  pub only-both : (b v : Option X) → Keeps b v → IsOnlyValue b v v v
  only-both b v keeps = only-of b v v v refl (λ x k. elim k [ inl h ↦ keeps x h | inr one ↦ elim one [ inl h ↦ h | inr h ↦ h ] ])

  -- what is the only value keeps that of the base
  pub only-keeps : (b o t v : Option X) → IsOnlyValue b o t v → Keeps b v
  only-keeps b o t None h x e = absurd (h x (inl e))
  only-keeps b o t (Some y) h x e = ap Some (sym (h.1 x (inl e)))

  pub only-one : (b o t : Option X) (x : X) → IsOnlyValue b o t (Some x) → IsOneOf b o t x
  only-one b o t x h = h.0

  pub only-all : (b o t v : Option X) (x : X) → IsOnlyValue b o t v → IsOneOf b o t x → v ≡ Some x
  only-all b o t None x h k = absurd (h x k)
  only-all b o t (Some y) x h k = ap Some (sym (h.1 x k))

  -- ---- of two, and of the third

  first-one : (b o v : Option X) (x : X) → IsOnlyValue None b o v → v ≡ Some x → (b ≡ Some x) ⊎ (o ≡ Some x)
  first-one b o None x h e = absurd (cc e)
  first-one b o (Some y) x h e = elim h.0 [
    | inl none ↦ absurd (cc none)
    | inr k ↦ elim k [ inl is ↦ inl (is ∙ e) | inr is ↦ inr (is ∙ e) ]
  ]

  first-all : (b o v : Option X) (x : X) → IsOnlyValue None b o v → (b ≡ Some x) ⊎ (o ≡ Some x) → v ≡ Some x
  first-all b o None x h k = absurd (h x (inr k))
  first-all b o (Some y) x h k = ap Some (sym (h.1 x (inr k)))

  to-three : (b o v t : Option X) (x : X) → IsOnlyValue None b o v → IsOneOf None v t x → IsOneOf b o t x
  to-three b o v t x h (inl none) = absurd (cc none)
  to-three b o v t x h (inr (inl e)) = elim (first-one b o v x h e) [ inl k ↦ inl k | inr k ↦ inr (inl k) ]
  to-three b o v t x h (inr (inr e)) = inr (inr e)

  of-three : (b o v t : Option X) (x : X) → IsOnlyValue None b o v → IsOneOf b o t x → IsOneOf None v t x
  of-three b o v t x h (inl k) = inr (inl (first-all b o v x h (inl k)))
  of-three b o v t x h (inr (inl k)) = inr (inl (first-all b o v x h (inr k)))
  of-three b o v t x h (inr (inr k)) = inr (inr k)

  pub only-then : (b o v t w : Option X) → IsOnlyValue None b o v → IsOnlyValue None v t w → IsOnlyValue b o t w
  only-then b o v t None h k = λ x one. k x (of-three b o v t x h one)
  only-then b o v t (Some y) h k = (to-three b o v t y h k.0, λ x one. k.1 x (of-three b o v t x h one))

  pub two-then : (b o v t : Option X) → IsOnlyValue None b o v → HaveTwoValues None v t → HaveTwoValues b o t
  two-then b o v t h (x, y, hx, hy, apart) = (x, y, to-three b o v t x h hx, to-three b o v t y h hy, apart)

  first-three : (b o t : Option X) (x : X) → IsOneOf None b o x → IsOneOf b o t x
  first-three b o t x (inl none) = absurd (cc none)
  first-three b o t x (inr (inl k)) = inl k
  first-three b o t x (inr (inr k)) = inr (inl k)

  pub two-first : (b o t : Option X) → HaveTwoValues None b o → HaveTwoValues b o t
  two-first b o t (x, y, hx, hy, apart) = (x, y, first-three b o t x hx, first-three b o t y hy, apart)

  -- ---- two that may be absent

  pub only-left : (v : Option X) → IsOnlyValue None None v v
  only-left None = λ x k. elim k [ inl e ↦ absurd (cc e) | inr one ↦ elim one [ inl e ↦ absurd (cc e) | inr e ↦ absurd (cc e) ] ]
  only-left (Some y) = (inr (inr refl), λ x k. elim k [ inl e ↦ absurd (cc e) | inr one ↦ elim one [ inl e ↦ absurd (cc e) | inr e ↦ sym (same_Some y x e) ] ])

  pub only-right : (v : Option X) → IsOnlyValue None v None v
  only-right v = only-flip None None v v (only-left v)

  pub only-same : (x : X) → IsOnlyValue None (Some x) (Some x) (Some x)
  only-same x = (inr (inl refl), λ y k. elim k [ inl e ↦ absurd (cc e) | inr one ↦ elim one [ inl e ↦ sym (same_Some x y e) | inr e ↦ sym (same_Some x y e) ] ])

  pub two-apart : (x y : X) → x ≢ y → HaveTwoValues None (Some x) (Some y)
  two-apart x y apart = (x, y, inr (inl refl), inr (inr refl), apart)
