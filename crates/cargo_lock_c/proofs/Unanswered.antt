-- Why there is no answer about packages, by the status that says so.
use Rattle.std.proofs.Common.{◌≡◌, ◌≤◌, ◌⊎◌, ℕ, List, arith, inl, inr, length, subst, sym, refl}
use Rattle.std.proofs.lemmas.Option.{slice_get_within}
use Rattle.lists.specs.Places.{IsPlaces}
use Rattle.cargo_lock_query.specs.Spec.{SpecFits}
use Rattle.cargo_lock_encoding.specs.Lockfiles.{LockfileData}
use Rattle.cargo_lock_encoding.specs.Means.{TextMeans}
use Rattle.cargo_lock_parts.specs.Identity.{PackageData}
use Rattle.cargo_lock_c.specs.declared.refusal.Refusal.{Refusal}
use Rattle.cargo_lock_c.specs.declared.refusal.Refusal.TheVariants.{NoMemory, NothingFits}
use Rattle.cargo_lock_c.specs.Documents.{FitsNone}
use Rattle.cargo_lock_c.specs.Graph.{IsUnresolvedText}
use Rattle.cargo_lock_c.specs.Statuses.{status_of}
use Rattle.cargo_lock_c.specs.Texts.{RefusesText}

-- where no place is listed, the specification fits no package
pub none-fits : (spec : List ℕ) (packages : List PackageData) (nodes : List ℕ) → IsPlaces (SpecFits spec packages) (length packages) nodes → length nodes ≡ 0
    → (place : ℕ) → ¬ SpecFits spec packages place
none-fits spec packages nodes are none place fits =
    let (k, low, at) = (are.listed place).1 (slice_get_within packages place fits.0 fits.1, fits) in
    absurd (omega (arith, low, none))

-- what a status says of a text and a specification without an answer
pub record SaysOfSpec (text spec : List ℕ) (status : ℕ) : Type 0 where
  pub unresolved : status ≡ 7 → IsUnresolvedText text
  pub nothing_fits : status ≡ 13 → FitsNone text spec
  pub refused : RefusesText text status
  pub kind : (status ≤ 3) ⊎ (status ≡ 7) ⊎ (status ≡ 13)

-- the status of why there is no answer about a lockfile of the text says it
pub no-answer : (text spec : List ℕ) (l : LockfileData) (refusal : Refusal) → TextMeans text l
    → (refusal ≡ NoMemory) ⊎ ((refusal ≡ NothingFits) × ((place : ℕ) → ¬ SpecFits spec l.packages place)) → SaysOfSpec text spec (status_of refusal)
no-answer text spec l refusal means (inl memory) = subst (λ (r : Refusal). SaysOfSpec text spec (status_of r)) (sym memory) record {
  unresolved = λ seven. absurd (omega (arith, seven));
  nothing_fits = λ thirteen. absurd (omega (arith, thirteen));
  refused = record { no_lockfile = λ one. absurd (omega (arith, one)); no_text = λ two. absurd (omega (arith, two)) };
  kind = inl (omega arith);
}
no-answer text spec l refusal means (inr none) = subst (λ (r : Refusal). SaysOfSpec text spec (status_of r)) (sym none.0) record {
  unresolved = λ seven. absurd (omega (arith, seven));
  nothing_fits = λ _. (l, means, none.1);
  refused = record { no_lockfile = λ one. absurd (omega (arith, one)); no_text = λ two. absurd (omega (arith, two)) };
  kind = inr (inr refl);
}
