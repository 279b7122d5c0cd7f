-- Identities that both sides have, and references that did not move.
use Rattle.std.proofs.Common.{◌≡◌, ◌≢◌, ◌⊎◌, inl, inr, List, None, sym, ap, subst, ◌∙◌}
use Rattle.std.specs.List.{Contains}
use Rattle.cargo_lock_parts.specs.Identity.{identity_key}
use Rattle.cargo_lock_merge_core.specs.Laws.{HaveOneAtEach}
use Rattle.cargo_lock_merge_core.specs.LawsOfMerges.{HasSameReference}
use Rattle.cargo_lock_merge_core.specs.Merge.{HasReference, IsMerge, IsMovedReference, IsReachedInMerge, Triple}
use Rattle.cargo_lock_merge_core.specs.Placed.{HasAt, HasOneAtEach, PlacedData, key}
use Rattle.cargo_lock_merge_core.specs.Places.{Place}
use Rattle.cargo_lock_merge_core.proofs.Deciding.{at-cases, contains-cases, key-cases}
use Rattle.cargo_lock_merge_core.proofs.Staying.{both-from, one-at}

-- the identity of both sides at a place
pub both-identity : (s : Triple Place) (m : List (PlacedData Place)) (p : Place) (y z : PlacedData Place) → HaveOneAtEach s → IsMerge s m → IsReachedInMerge s p → HasAt s.ours p y
    → HasAt s.theirs p z → key y ≡ key z → (x : PlacedData Place) × HasAt m p x × (key x ≡ key y)
both-identity s m p y z one h reached ay az same =
    let (x, at) = (h.holds p).1 reached in
    let there : (xs : List (PlacedData Place)) (w : PlacedData Place) → HasAt xs p w → HasAt xs x.place w = λ xs w k. (k.0, k.1 ∙ sym at.1) in
    let (b, c, at-b, from, ey, ez) = both-from s one.base one.ours one.theirs x y z (h.each x at.0) (there s.ours y ay) (there s.theirs z az) same in
    (x, at, ap identity_key from.identity ∙ sym ey)

module _ (side : List (PlacedData Place)) (one : HasOneAtEach side) (x y : PlacedData Place) where
  -- the package of the side at a place
  same-at : (p : Place) (f g : PlacedData Place) → HasAt side p f → HasAt side p g → f ≡ g
  same-at p f g h k = one-at side one f g h.0 k.0 (h.1 ∙ sym k.1)

  both-of : (f t : PlacedData Place) → HasAt side x.place f → HasAt side y.place t → x.content.source ≢ None → HasSameReference side x y ⊎ (¬ HasReference side x y)
  both-of f t hf ht sourced = elim (key-cases f x) [
    | inr other ↦ inr (λ r. elim r.same [
      | inl none ↦ sourced none
      | inr e ↦ other (ap (λ (z : PlacedData Place). key z) (same-at x.place f r.from hf r.from_at) ∙ e)
    ])
    | inl same ↦ elim (key-cases t y) [
      | inr other ↦ inr (λ r. other (ap (λ (z : PlacedData Place). key z) (same-at y.place t r.to ht r.to_at) ∙ r.target))
      | inl same' ↦ elim (contains-cases f.dependencies y.place) [
        | inr none ↦ inr (λ r. none (subst (λ (z : PlacedData Place). Contains z.dependencies y.place) (same-at x.place r.from f r.from_at hf) r.depends))
        | inl depends ↦ inl (record { from = f; from_at = hf; same_from = same; to = t; to_at = ht; same_to = same'; depends = depends })
      ]
    ]
  ]

  both-cases : x.content.source ≢ None → HasSameReference side x y ⊎ (¬ HasReference side x y)
  both-cases sourced = elim (at-cases side x.place) [
    | inr none ↦ inr (λ r. none r.from r.from_at)
    | inl f ↦ elim (at-cases side y.place) [
      | inr none ↦ inr (λ r. none r.to r.to_at)
      | inl t ↦ both-of f.0 t.0 f.1 t.1 sourced
    ]
  ]

pub unmoved-side : (s : Triple Place) (m : List (PlacedData Place)) (x y : PlacedData Place) → HaveOneAtEach s → ¬ IsMovedReference s m x y → Contains m x → Contains m y
    → Contains x.dependencies y.place → x.content.source ≢ None → y.content.source ≢ None → HasSameReference s.ours x y ⊎ HasSameReference s.theirs x y
unmoved-side s m x y one stays hx hy depends sx sy = elim (both-cases s.ours one.ours x y sx) [
  | inl ours ↦ inl ours
  | inr none ↦ elim (both-cases s.theirs one.theirs x y sx) [
    | inl theirs ↦ inr theirs
    | inr none' ↦ absurd (stays (record { from = hx; to = hy; depends = depends; sourced = sy; ours = none; theirs = none' }))
  ]
]
