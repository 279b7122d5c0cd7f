-- Which packages are compared.
use Rattle.std.proofs.Common.{ap, not, refl}
use Rattle.std.proofs.lemmas.List.Sorted.{IsPermutation-filter_both}
use Rattle.lists.proofs.Members.{in-kept, kept-in}
use Rattle.lists.proofs.Tests.{not-true}
use Rattle.cargo_lock_audit.specs.Coverage.{CoverageIsExact, is_compared, is_not_compared}

pub coverage-is-exact : CoverageIsExact
coverage-is-exact registries packages n = record {
  together = IsPermutation-filter_both (is_compared registries) (is_not_compared registries) (λ p. refl) packages;
  compared = λ p. (
    kept-in (is_compared registries) packages p,
    λ h. in-kept (is_compared registries) packages p h.0 h.1,
  );
  not_compared = λ p. (
    λ h. let (there, other) = kept-in (is_not_compared registries) packages p h in (there, not-true (is_compared registries p) other),
    λ h. in-kept (is_not_compared registries) packages p h.0 (ap not h.1),
  );
}
