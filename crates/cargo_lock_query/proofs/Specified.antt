-- The places of packages that a specification fits, one package after another.
use Rattle.std.proofs.Common.{◌≡◌, ◌∙◌, ◌<◌, ◌+◌, ◌++◌, ◌∷◌, [], ℕ, Bool, true, false, cond, List, Some, get_or, length, refl, slice_get, sym}
use Rattle.std.proofs.lemmas.Option.{slice_get_read}
use Rattle.cargo_lock_parts.specs.Identity.{PackageData}
use Rattle.lists.specs.Places.{IsPlaces}
use Rattle.cargo_lock_query.specs.Spec.{SpecFits, spec_fits, spec_in}
use Rattle.lists.proofs.Members.{same-at}
use Rattle.lists.proofs.Places.{places-pass, places-put}

-- one more package, tested
pub fitting-tested : (spec : List ℕ) (packages : List PackageData) (place : ℕ) (p : PackageData) (is : Bool) (xs ys : List ℕ) → place < length packages → p ≡ get_or packages place p
    → is ≡ spec_fits (spec_in spec) p → ys ≡ cond is (xs ++ place ∷ []) xs → IsPlaces (SpecFits spec packages) place xs → IsPlaces (SpecFits spec packages) (place + 1) ys
fitting-tested spec packages place p true xs ys low at says grows so_far =
    places-put (SpecFits spec packages) place (place + 1) xs ys so_far (p, slice_get_read packages (length packages) place p refl low at, sym says) refl grows
fitting-tested spec packages place p false xs ys low at says grows so_far =
    let there : slice_get packages place ≡ Some p = slice_get_read packages (length packages) place p refl low at in
    rw grows (places-pass (SpecFits spec packages) place (place + 1) xs so_far
    (λ h. let same : h.0 ≡ p = same-at packages place h.0 p h.1 there in let e : false ≡ true = says ∙ rw (← same) h.2 in cc e) refl)
