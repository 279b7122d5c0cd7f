use Rattle.std.proofs.Common.{◌≡◌, ◌≢◌, ◌+◌, ◌⊎◌, ℕ, Option, subst}
use Rattle.std.specs.BTreeMap.{get_by}
use Rattle.std.specs.Cmp.Lexicographic.{slice_cmp}
use Rattle.std.specs.Ordering.{nat_cmp}
use Rattle.std.specs.Prelude.{unwrap_or}
use Rattle.cargo_lock_merge_core.proofs.Counted.{put-cases}
use Rattle.cargo_lock_merge_core.proofs.member_counts.count.Goals as goal

pub returns : goal.returns
returns c = λ other.
    let new : Option ℕ = get_by (λ b. slice_cmp nat_cmp other b.now) c.insert.new.self in
    let old : Option ℕ = get_by (λ b. slice_cmp nat_cmp other b.now) c.args.counts.now in
    subst (λ (n : ℕ). ((other ≡ c.args.name.now) × (unwrap_or new 0 ≡ n + 1)) ⊎ ((other ≢ c.args.name.now) × (unwrap_or new 0 ≡ unwrap_or old 0))) c.count_of-before.ensures
    (put-cases c.args.name.now other new (c.count_of-before.result + 1) old (c.in_ok-insert.ensures.updates.0 record c.args.name { now = other }))
