use Rattle.std.specs.Borrow.{Bor}
use Rattle.std.proofs.lemmas.List.Sorted.{IsPermutation-map}
use Rattle.cargo_lock_parts.specs.Identity.{PackageData}
use Rattle.cargo_lock_diff.proofs.home.Residents.of.Goals as goal

pub invariant_of-result : goal.invariant_of-result
invariant_of-result c = record {
  names_sorted = c.in_ok-by_name.ensures.sorted;
  homes_sorted = c.in_ok-homes.ensures.sorted;
  known = c.in_ok-homes.ensures.known;
}

pub returns : goal.returns
returns c = IsPermutation-map (λ (b : Bor PackageData). b.now) c.args.olds.now.items c.in_ok-by_name.by_name.items c.in_ok-by_name.ensures.items
