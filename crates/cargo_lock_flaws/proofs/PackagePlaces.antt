-- What holds of the package at a place, and the places at which it holds.
use Rattle.std.proofs.Common.{◌≡◌, ◌<◌, ◌+◌, ◌↔◌, ℕ, Bool, true, false, cond, List, [], ◌∷◌, ◌++◌, length, get_or, None, Some, refl, sym, subst, ◌∙◌}
use Rattle.std.specs.Bool.{Decides}
use Rattle.std.proofs.lemmas.Bool.{false≢true}
use Rattle.std.proofs.lemmas.Option.{slice_get_read, same_Some}
use Rattle.cargo_lock_parts.specs.Identity.{PackageData}
use Rattle.cargo_lock_parts.specs.Source.{Source}
use Rattle.cargo_lock_graph.specs.Targets.{HoldsOf}
use Rattle.lists.specs.Places.{IsPlaces}
use Rattle.cargo_lock_flaws.specs.Sources.{IsFrom}
use Rattle.lists.proofs.Places.{places-pass, places-put}

-- what holds of a package that was read holds at its place
pub holds-there : (P : PackageData → Type 0) (packages : List PackageData) (place : ℕ) (p : PackageData) → place < length packages → p ≡ get_or packages place p
    → P p → HoldsOf P packages place
holds-there P packages place p low is h = (p, slice_get_read packages (length packages) place p refl low is, h)

-- what does not hold of it does not hold there
pub fails-there : (P : PackageData → Type 0) (packages : List PackageData) (place : ℕ) (p : PackageData) → place < length packages → p ≡ get_or packages place p
    → ¬ P p → ¬ HoldsOf P packages place
fails-there P packages place p low is miss h =
    miss (subst P (same_Some h.0 p (sym h.1 ∙ slice_get_read packages (length packages) place p refl low is)) h.2)

-- the package has another source, or none
pub from-none : (P : Source → Type 0) (p : PackageData) → p.source ≡ None → ¬ IsFrom P p
from-none P p none h = (let e = sym none ∙ h.1 in cc e)

pub from-some : (P : Source → Type 0) (p : PackageData) (s : Source) → p.source ≡ Some s → IsFrom P p ↔ P s
from-some P p s some = (
  λ h. subst P (same_Some h.0 s (sym h.1 ∙ some)) h.2,
  λ h. (s, some, h),
)

-- one more place, tested
pub places-tested : (P : PackageData → Type 0) (packages : List PackageData) (place : ℕ) (p : PackageData) (b : Bool) (xs ys : List ℕ)
    → place < length packages → p ≡ get_or packages place p → Decides b (P p) → ys ≡ cond b (xs ++ place ∷ []) xs
    → IsPlaces (HoldsOf P packages) place xs → IsPlaces (HoldsOf P packages) (place + 1) ys
places-tested P packages place p true xs ys low is tells grows so_far =
    places-put (HoldsOf P packages) place (place + 1) xs ys so_far (holds-there P packages place p low is (tells.0 refl)) refl grows
places-tested P packages place p false xs ys low is tells grows so_far =
    rw grows (places-pass (HoldsOf P packages) place (place + 1) xs so_far (fails-there P packages place p low is (λ h. false≢true (tells.1 h))) refl)
