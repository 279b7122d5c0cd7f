use Rattle.std.proofs.Common.{◌<◌, subst, sym, All, Contains, List, ℕ, length}
use Rattle.std.proofs.lemmas.List.Filters.{All-dedup, dedup_is}
use Rattle.std.proofs.lemmas.List.Kept.{Contains-dedup_nat, Contains-from_dedup}
use Rattle.std.proofs.lemmas.List.Sorted.{All-permutation, Contains-permutation, IsPermutation-sym}
use Rattle.std.proofs.lemmas.Map.Keys.{IsStrictlyIncreasing-dedup}
use Rattle.cargo_lock_bom.proofs.dependencies.targets.Goals as goal

pub returns : goal.returns
returns c =
    let is = dedup_is _ _ _ c.dedup.ensures.filtered in
    let moved = c.sort_unstable.ensures.permutation in
    let found = c.in_ok-targets.ensures.are in
    let within : All (λ (k : ℕ). k < length c.args.graph.now.packages) c.in_ok-targets.targets.items = c.in_ok-targets.ensures.within in
    record {
      ascending = rw is (IsStrictlyIncreasing-dedup _ c.sort_unstable.ensures.sorted);
      are_nodes = rw is (All-dedup _ (λ (k : ℕ). k < length c.args.graph.now.packages) _ (All-permutation (λ (k : ℕ). k < length c.args.graph.now.packages) _ _ moved within));
      told = λ k. (
        λ h. subst (λ (xs : List ℕ). Contains xs k) found (Contains-permutation _ _ k (IsPermutation-sym _ _ moved) (Contains-from_dedup _ _ k (rw is at h))),
        λ h. rw is (Contains-dedup_nat _ k (Contains-permutation _ _ k moved (subst (λ (xs : List ℕ). Contains xs k) (sym found) h))),
      );
    }
