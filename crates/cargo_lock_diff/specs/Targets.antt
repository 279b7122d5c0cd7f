-- Pairs of packages, in the form in which targets are looked up in them. No public contract cites
-- these definitions.
use Rattle.std.specs.Prelude.{◌≡◌, List}
use Rattle.std.specs.Borrow.{Bor}
use Rattle.std.specs.declared.cmp.Ordering.{Ordering}
use Rattle.std.specs.List.Sorted.{IsStrictlySortedBy}
use Rattle.std.specs.Ordering.{on, then_cmp}
use Rattle.cargo_lock_parts.specs.Identity.{Identity, PackageData, identity_of}
use Rattle.cargo_lock_diff.specs.Dependencies.{is_carried}
use Rattle.cargo_lock_diff.specs.Difference.{referred_pairs}
use Rattle.cargo_lock_diff.specs.Place.{target_cmp}

-- the order of an old and a new dependency
abbrev pub targets_cmp : Identity × Identity → Identity × Identity → Ordering
targets_cmp = then_cmp (on (λ t. t.0) target_cmp) (on (λ t. t.1) target_cmp)

-- the identities of the packages of a pair
abbrev pub targets_of : Bor PackageData × Bor PackageData → Identity × Identity
targets_of p = (identity_of p.0.now, identity_of p.1.now)

-- the order of pairs by the identities of their packages
abbrev pub pairs_cmp : Bor PackageData × Bor PackageData → Bor PackageData × Bor PackageData
    → Ordering
pairs_cmp = on targets_of targets_cmp

-- the order of dependencies
abbrev pub dependencies_cmp : Bor Identity → Bor Identity → Ordering
dependencies_cmp = on (λ b. b.now) target_cmp

-- both lists have the pairs in an order: the first is for looking up an old dependency, the second
-- for looking up a new one
pub record AreIndices (pairs by_old by_new : List (Bor PackageData × Bor PackageData)) : Type 0
  where
    pub old_sorted : IsStrictlySortedBy pairs_cmp by_old
    pub new_sorted : IsStrictlySortedBy pairs_cmp by_new
    pub old_carries : (d e : Identity)
        → is_carried (referred_pairs by_old) d e ≡ is_carried (referred_pairs pairs) d e
    pub new_carries : (d e : Identity)
        → is_carried (referred_pairs by_new) e d ≡ is_carried (referred_pairs pairs) d e
