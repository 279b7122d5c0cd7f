use Rattle.std.proofs.Common.{rules, List, length, ◌≤◌, subst, ◌∙◌}
use Rattle.std.specs.Borrow.{Bor}
use Rattle.std.specs.Ordering.{is_lt}
use Rattle.std.proofs.lemmas.List.{take_rest}
use Rattle.std.proofs.lemmas.List.Sorted.{IsPartitionPoint-from_clause}
use Rattle.cargo_lock_parts.specs.Identity.{PackageData, identity_of}
use Rattle.cargo_lock_diff.specs.Difference.{dependencies_at}
use Rattle.cargo_lock_diff.specs.Place.{target_cmp}
use Rattle.cargo_lock_diff.proofs.Leads.{leads-from, parted-by}
use Rattle.cargo_lock_diff.proofs.dependencies.leads.Goals as goal

pub returns : goal.returns
returns c =
    let d = c.args.one.now in
    let xs = c.args.pairs.now.items in
    let i = c.partition_point-from.result in
    let within : i ≤ length xs = subst (λ (zs : List (Bor PackageData × Bor PackageData)). i ≤ length zs) c.deref.ensures.value c.partition_point-from.ensures.bound in
    let clause = rw c.deref.ensures.value at c.partition_point-from.ensures.partitioned in
    let parts = IsPartitionPoint-from_clause (λ (p : Bor PackageData × Bor PackageData). is_lt (target_cmp (identity_of p.0.now) d)) xs i
    clause (parted-by d xs c.requires.pairs) (λ a r f k. search rules) in
    rw (c.deref-2.ensures.value, take_rest xs i) at c.first_lead.ensures ∙ leads-from d (dependencies_at c.args.others.now.items) xs i c.requires.pairs within parts
