-- Which dependencies the pairs of a difference carry onto which.
use Rattle.std.proofs.Common.{◌≡◌, ◌⊎◌, inl, inr, suc, Bool, true, false, not, List, [], ◌∷◌, refl, ap, sym, ◌∙◌, arith}
use Rattle.std.specs.Prelude.{◌&&◌, ◌||◌}
use Rattle.std.specs.Cmp.{IsEquivalence, eq_by_cmp_equiv}
use Rattle.std.specs.List.{Contains, list_any}
use Rattle.std.proofs.lemmas.List.Elements.{Contains-append_right, Contains-get_or}
use Rattle.cargo_lock_parts.specs.Identity.{Identity, PackageData}
use Rattle.cargo_lock_diff.specs.Dependencies.{AreSame, EqualIfCarried, IsCarried, are_one, are_targets, is_carried, is_carried_either, is_met, is_target}
use Rattle.cargo_lock_diff.proofs.Leads.{or-true}
use Rattle.cargo_lock_diff.proofs.Orders.{target_total}
use Rattle.cargo_lock_diff.proofs.Vouched.{any-there}
use Rattle.lists.proofs.Tests.{and-parts as and-true, or-cases}

one_laws : IsEquivalence are_one
one_laws = eq_by_cmp_equiv target_total

-- ---- the law

-- what passes is there
any-found : {X : Type 0} (q : X → Bool) (xs : List X) → list_any q xs ≡ true → (x : X) × Contains xs x × (q x ≡ true)
any-found q [] h = cc h
any-found {X} q (x ∷ xs) h = go (q x) refl (any-found q xs) h
  where
    go : (b : Bool) → q x ≡ b → (list_any q xs ≡ true → (y : X) × Contains xs y × (q y ≡ true)) → (q x || list_any q xs) ≡ true
        → (y : X) × Contains (x ∷ xs) y × (q y ≡ true)
    go true hit later h = (x, Contains-get_or (x ∷ xs) 0 x (omega arith), hit)
    go false miss later h =
        let r = later (sym (ap (λ b. b || list_any q xs) miss) ∙ h) in (r.0, Contains-append_right (x ∷ []) xs r.0 r.1, r.2)

or-false : (a b : Bool) → (a || b) ≡ false → (a ≡ false) × (b ≡ false)
or-false true b h = cc h
or-false false b h = (refl, h)

-- none fails where each passes, and the other way round
pub none-fails : {X : Type 0} (q : X → Bool) (xs : List X) → ((x : X) → Contains xs x → q x ≡ true) → list_any (λ x. not (q x)) xs ≡ false
none-fails q [] all = refl
none-fails q (x ∷ xs) all =
    let rest = none-fails q xs (λ y c. all y (suc c.0, omega (arith, c.1), c.2)) in
    λ i. not (all x (0, omega arith, refl) i) || rest i

each-passes : {X : Type 0} (q : X → Bool) (xs : List X) → list_any (λ x. not (q x)) xs ≡ false → (x : X) → Contains xs x → q x ≡ true
each-passes {X} q xs h x there = go (q x) refl
  where
    go : (b : Bool) → q x ≡ b → q x ≡ true
    go true hit = hit
    go false miss =
        let bad : list_any (λ y. not (q y)) xs ≡ true = any-there (λ y. not (q y)) xs x there (ap not miss) in
        cc (bad, h)

carried-is : (pairs : List (PackageData × PackageData)) (d e : Identity) → is_carried pairs d e ≡ true → IsCarried pairs d e
carried-is pairs d e h =
    let p = any-found (λ (q : PackageData × PackageData). are_targets q d e) pairs h in
    let both = and-true (is_target p.0.0 d) (is_target p.0.1 e) p.2 in
    (p.0, p.1, both.0, both.1)

is-carried : (pairs : List (PackageData × PackageData)) (d e : Identity) → IsCarried pairs d e → is_carried pairs d e ≡ true
is-carried pairs d e (p, there, old, new) = any-there (λ (q : PackageData × PackageData). are_targets q d e) pairs p there (λ i. old i && new i)

-- an old dependency that meets a new one is the same as some
met-old : (pairs : List (PackageData × PackageData)) (es : List Identity) (d : Identity) → is_met true pairs es d ≡ true
    → (e : Identity) × Contains es e × AreSame pairs d e
met-old pairs es d h = by (or-cases (list_any (are_one d) es) (list_any (is_carried_either true pairs d) es) h)
  where
    by : (list_any (are_one d) es ≡ true) ⊎ (list_any (is_carried_either true pairs d) es ≡ true)
        → (e : Identity) × Contains es e × AreSame pairs d e
    by (inl one) = let e = any-found (are_one d) es one in (e.0, e.1, inl e.2)
    by (inr met) = let e = any-found (is_carried_either true pairs d) es met in (e.0, e.1, inr (carried-is pairs d e.0 e.2))

met-new : (pairs : List (PackageData × PackageData)) (ds : List Identity) (e : Identity) → is_met false pairs ds e ≡ true
    → (d : Identity) × Contains ds d × AreSame pairs d e
met-new pairs ds e h = by (or-cases (list_any (are_one e) ds) (list_any (is_carried_either false pairs e) ds) h)
  where
    by : (list_any (are_one e) ds ≡ true) ⊎ (list_any (is_carried_either false pairs e) ds ≡ true)
        → (d : Identity) × Contains ds d × AreSame pairs d e
    by (inl one) = let d = any-found (are_one e) ds one in (d.0, d.1, inl (one_laws.symm d.0 e ∙ d.2))
    by (inr met) = let d = any-found (is_carried_either false pairs e) ds met in (d.0, d.1, inr (carried-is pairs d.0 e d.2))

same-old : (pairs : List (PackageData × PackageData)) (es : List Identity) (d e : Identity) → Contains es e → AreSame pairs d e → is_met true pairs es d ≡ true
same-old pairs es d e there (inl one) = or-true _ _ (inl (any-there (are_one d) es e there one))
same-old pairs es d e there (inr carried) = or-true _ _ (inr (any-there (is_carried_either true pairs d) es e there (is-carried pairs d e carried)))

same-new : (pairs : List (PackageData × PackageData)) (ds : List Identity) (d e : Identity) → Contains ds d → AreSame pairs d e → is_met false pairs ds e ≡ true
same-new pairs ds d e there (inl one) = or-true _ _ (inl (any-there (are_one e) ds d there (one_laws.symm e d ∙ one)))
same-new pairs ds d e there (inr carried) = or-true _ _ (inr (any-there (is_carried_either false pairs e) ds d there (is-carried pairs d e carried)))

pub equal_if_carried : EqualIfCarried
equal_if_carried pairs old new = (
  λ h.
      let parts = or-false (list_any (λ d. not (is_met true pairs new.dependencies d)) old.dependencies)
      (list_any (λ d. not (is_met false pairs old.dependencies d)) new.dependencies) h in (
        λ d there. met-old pairs new.dependencies d (each-passes (is_met true pairs new.dependencies) old.dependencies parts.0 d there),
        λ e there. met-new pairs old.dependencies e (each-passes (is_met false pairs old.dependencies) new.dependencies parts.1 e there),
      ),
  λ all.
      let one = none-fails (is_met true pairs new.dependencies) old.dependencies
      (λ d there. let e = all.0 d there in same-old pairs new.dependencies d e.0 e.1 e.2) in
      let other = none-fails (is_met false pairs old.dependencies) new.dependencies
      (λ e there. let d = all.1 e there in same-new pairs old.dependencies d.0 e d.1 d.2) in
      λ i. one i || other i,
)
