-- Lists of entries and of nodes, place by place.
use Rattle.std.proofs.Common.{◌≡◌, inl, inr, ◌↔◌, ℕ, List, [], ◌∷◌, refl, sym, subst, ◌∙◌}
use Rattle.std.specs.List.{AllZip, Contains}
use Rattle.std.proofs.lemmas.List.Elements.{Contains-append_right}
use Rattle.lists.proofs.Members.{contains-cases, first-in, none-in}
use Rattle.cargo_lock_merge_core.specs.declared.entry.Entry.{Entry}
use Rattle.cargo_lock_merge_core.specs.declared.reach.Node.{Node}
use Rattle.cargo_lock_merge_core.specs.Plans.{IsNodeOf, IsRootEntry, LeadsToEntry, entry_places}
use Rattle.cargo_lock_merge_core.specs.Reach.{IsRootPlace, LeadsToPlace, places_in}

pub zip-right : {A B : Type 0} (R : A → B → Type 0) (xs : List A) (ys : List B) (y : B) → AllZip R xs ys → Contains ys y → (x : A) × Contains xs x × R x y
zip-right R [] [] y h c = absurd (none-in y c)
zip-right R [] (b ∷ ys) y h c = absurd h
zip-right R (a ∷ xs) [] y h c = absurd h
zip-right R (a ∷ xs) (b ∷ ys) y h c = elim (contains-cases b ys y c) [
  | inl same ↦ (a, first-in a xs, subst (R a) same h.0)
  | inr rest ↦ let k = zip-right R xs ys y h.1 rest in (k.0, Contains-append_right (a ∷ []) xs k.0 k.1, k.2)
]

pub zip-left : {A B : Type 0} (R : A → B → Type 0) (xs : List A) (ys : List B) (x : A) → AllZip R xs ys → Contains xs x → (y : B) × Contains ys y × R x y
zip-left R [] [] x h c = absurd (none-in x c)
zip-left R [] (b ∷ ys) x h c = absurd h
zip-left R (a ∷ xs) [] x h c = absurd h
zip-left {A = A} R (a ∷ xs) (b ∷ ys) x h c = elim (contains-cases a xs x c) [
  | inl same ↦ (b, first-in b ys, subst (λ (z : A). R z b) same h.0)
  | inr rest ↦ let k = zip-left R xs ys x h.1 rest in (k.0, Contains-append_right (b ∷ []) ys k.0 k.1, k.2)
]

-- ---- nodes

pub node-places : (es : List Entry) (ns : List Node) → AllZip IsNodeOf es ns → places_in ns ≡ entry_places es
node-places [] [] h = refl
node-places [] (n ∷ ns) h = absurd h
node-places (e ∷ es) [] h = absurd h
node-places (e ∷ es) (n ∷ ns) h = λ i. h.0.place i ∷ node-places es ns h.1 i

module _ (es : List Entry) (ns : List Node) (are : AllZip IsNodeOf es ns) where
  pub root-entry : (p : ℕ) → IsRootPlace ns p ↔ IsRootEntry es p
  root-entry p = (
    λ h. let k = zip-right IsNodeOf es ns h.0 are h.1 in (k.0, k.1, sym k.2.place ∙ h.2, k.2.root.0 h.3),
    λ h. let k = zip-left IsNodeOf es ns h.0 are h.1 in (k.0, k.1, k.2.place ∙ h.2, k.2.root.1 h.3),
  )

  pub leads-entry : (p d : ℕ) → LeadsToPlace ns p d ↔ LeadsToEntry es p d
  leads-entry p d = (
    λ h. let k = zip-right IsNodeOf es ns h.0 are h.1 in
        (k.0, k.1, sym k.2.place ∙ h.2, subst (λ (zs : List ℕ). Contains zs d) k.2.targets h.3),
    λ h. let k = zip-left IsNodeOf es ns h.0 are h.1 in
        (k.0, k.1, k.2.place ∙ h.2, subst (λ (zs : List ℕ). Contains zs d) (sym k.2.targets) h.3),
  )
