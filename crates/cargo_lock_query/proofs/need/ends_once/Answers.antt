use Rattle.std.proofs.Common.{◌<◌, subst, sym, All, Contains, List, ℕ, length}
use Rattle.std.proofs.lemmas.List.Elements.{All-contains}
use Rattle.std.proofs.lemmas.List.Filters.{dedup_is}
use Rattle.std.proofs.lemmas.List.Kept.{Contains-dedup_nat, Contains-from_dedup}
use Rattle.std.proofs.lemmas.List.Sorted.{Contains-permutation, IsPermutation-sym}
use Rattle.std.proofs.lemmas.Map.Keys.{IsStrictlyIncreasing-dedup}
use Rattle.cargo_lock_query.proofs.need.ends_once.Goals as goal

pub returns-clause-places : goal.returns-clause-places
returns-clause-places c =
    let graph = c.args.graph.now in
    let is = dedup_is _ _ _ c.dedup.ensures.filtered in
    let moved = c.sort_unstable.ensures.permutation in
    let found = c.in_ok-ends.ensures.are in
    let within : All (λ (k : ℕ). k < length graph.packages) c.in_ok-ends.ends.items = c.in_ok-ends.ensures.within in
    let old : (k : ℕ) → Contains c.dedup.new.self.items k → Contains c.in_ok-ends.ends.items k = λ k h. Contains-permutation _ _ k (IsPermutation-sym _ _ moved) (Contains-from_dedup _ _ k (rw is at h)) in
    record {
      ascending = rw is (IsStrictlyIncreasing-dedup _ c.sort_unstable.ensures.sorted);
      listed = λ k. (
        λ h. (
          All-contains (λ (n : ℕ). n < length graph.packages) c.in_ok-ends.ends.items k within (old k h),
          subst (λ (xs : List ℕ). Contains xs k) found (old k h),
        ),
        λ h. rw is (Contains-dedup_nat _ k (Contains-permutation _ _ k moved (subst (λ (xs : List ℕ). Contains xs k) (sym found) h.1))),
      );
    }

pub returns-clause-within : goal.returns-clause-within
returns-clause-within c = subst (λ (ks : List ℕ). All (λ (k : ℕ). k < length c.args.graph.now.packages) ks) c.in_ok-ends.ensures.are c.in_ok-ends.ensures.within
