use Rattle.std.proofs.Common.{◌≡◌, take}
use Rattle.std.specs.Borrow.{Bor}
use Rattle.std.specs.BTreeSet.{contains}
use Rattle.std.specs.Ordering.{eq_by_cmp, on}
use Rattle.std.specs.Set.{is_member}
use Rattle.semver.specs.Identifiers.{parts_of}
use Rattle.semver.specs.declared.Version.{Version}
use Rattle.cargo_lock_parts.specs.IdentityOrder.{version_cmp}
use Rattle.cargo_lock_query.proofs.listing.count_different.Given as goal

-- the set has the versions so far
abbrev pub invariant-loop-version : goal.invariant-loop-version
invariant-loop-version l = (q : Bor Version)
    → contains (on (λ (v : Bor Version). parts_of v.now) version_cmp) l.different q ≡ is_member (eq_by_cmp (on (λ (v : Bor Version). parts_of v.now) version_cmp)) (take l.version-index l.versions) q
