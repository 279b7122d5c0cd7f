use Rattle.std.proofs.Common.{rules, List, refl, subst, sym}
use Rattle.std.specs.Borrow.{Bor}
use Rattle.std.specs.Cmp.{on_total}
use Rattle.std.specs.List.Sorted.{IsStrictlySortedBy}
use Rattle.std.specs.Ordering.{is_eq, is_lt}
use Rattle.std.proofs.lemmas.Fn.{always_returns_same, dedup_same}
use Rattle.std.proofs.lemmas.List.Kept.{IsStrictlySortedBy-dedup}
use Rattle.std.proofs.lemmas.List.Sorted.{ranks_by}
use Rattle.cargo_lock_parts.specs.Identity.{PackageData}
use Rattle.cargo_lock_diff.specs.Targets.{pairs_cmp, targets_of}
use Rattle.cargo_lock_diff.proofs.Leads.{in_order-carries}
use Rattle.cargo_lock_diff.proofs.Orders.{targets_total}
use Rattle.cargo_lock_diff.proofs.dependencies.in_order.Goals as goal

pub returns-clause-sorted : goal.returns-clause-sorted
returns-clause-sorted c =
    let sorted = c.in_ok-sort_by.ensures.sorted (λ (a b : Bor PackageData × Bor PackageData). is_lt (pairs_cmp a b))
    (ranks_by targets_total targets_of) (always_returns_same _ _ _ (λ a r f k. search rules)) in
    let made = dedup_same _ (λ (a b : Bor PackageData × Bor PackageData). is_eq (pairs_cmp a b)) _ (λ x y b f' x' y' k. search rules) _ _ c.dedup_by.ensures.filtered in
    subst (λ (zs : List (Bor PackageData × Bor PackageData)). IsStrictlySortedBy pairs_cmp zs) (sym made)
    (IsStrictlySortedBy-dedup (on_total targets_of targets_total) {E = λ (a b : Bor PackageData × Bor PackageData). is_eq (pairs_cmp a b)} (λ x y. refl) _ sorted)

pub returns-clause-carries : goal.returns-clause-carries
returns-clause-carries c =
    let made = dedup_same _ (λ (a b : Bor PackageData × Bor PackageData). is_eq (pairs_cmp a b)) _ (λ x y b f' x' y' k. search rules) _ _ c.dedup_by.ensures.filtered in
    in_order-carries c.args.pairs.items c.sort_by.new.self.items c.dedup_by.new.self.items c.in_ok-sort_by.ensures.permutation made
