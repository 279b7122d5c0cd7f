-- Equality is exactly equality of keys.
use Rattle.std.proofs.Common.{◌≡◌, Bool, true, ◌&&◌, List, [], ◌∷◌, refl, sym, ap, true≢false}
use Rattle.std.proofs.lemmas.Bool.{and_parts}
use Rattle.cargo_lock_parts.specs.Equality.{EqualDependencies, EqualPackages, EqualPatches, EqualSources, patch_key}
use Rattle.cargo_lock_parts.specs.Identity.{Identity, IdentityKey, identity_key}
use Rattle.cargo_lock_parts.specs.IdentityLaws.{is_same_identity-Decides, is_same_package-Decides}
use Rattle.cargo_lock_parts.specs.IdentityOrder.{is_same_identity, is_same_patch}
use Rattle.cargo_lock_parts.specs.SourceLaws.{is_same_source-Decides}

pub equal_sources : EqualSources
equal_sources a b = is_same_source-Decides a b

pub equal_dependencies : EqualDependencies
equal_dependencies a b = is_same_identity-Decides a b

pub equal_packages : EqualPackages
equal_packages a b = is_same_package-Decides a b

-- ---- lists, place by place

first_or : IdentityKey → List IdentityKey → IdentityKey
first_or k [] = k
first_or k (j ∷ js) = j

later : List IdentityKey → List IdentityKey
later [] = []
later (j ∷ js) = js

both : {s t : Bool} → s ≡ true → t ≡ true → (s && t) ≡ true
both p q = λ i. (p i) && (q i)

same_keys : (a b : List Identity) → is_same_patch a b ≡ true → patch_key a ≡ patch_key b
same_keys [] [] h = refl
same_keys [] (y ∷ ys) h = absurd (true≢false (sym h))
same_keys (x ∷ xs) [] h = absurd (true≢false (sym h))
same_keys (x ∷ xs) (y ∷ ys) h =
    let parts = and_parts (is_same_identity x y) (is_same_patch xs ys) h in
    let first = (is_same_identity-Decides x y).0 parts.0 in
    let rest = same_keys xs ys parts.1 in
    λ i. first i ∷ rest i

same_items : (a b : List Identity) → patch_key a ≡ patch_key b → is_same_patch a b ≡ true
unfolding first_or later
same_items [] [] e = refl
same_items [] (y ∷ ys) e = cc e
same_items (x ∷ xs) [] e = cc e
same_items (x ∷ xs) (y ∷ ys) e =
    both ((is_same_identity-Decides x y).1 (ap (first_or (identity_key x)) e)) (same_items xs ys (ap later e))

pub equal_patches : EqualPatches
equal_patches a b = (λ h. same_keys a b h, λ e. same_items a b e)
