-- The order of what a merge has: that in which Cargo writes packages, and the dependencies of each.
use Rattle.std.specs.Prelude.{All, List}
use Rattle.std.specs.List.Sorted.{IsSorted}
use Rattle.std.specs.Ordering.{on, then_cmp}
use Rattle.std.specs.declared.cmp.Ordering.{Ordering}
use Rattle.cargo_lock_order.specs.Canonical.{canonical}
use Rattle.cargo_lock_order.specs.Order.{by_kind_and_url, dependency_order, package_order}
use Rattle.cargo_lock_parts.specs.Identity.{Identity, PackageData, identity_of}
use Rattle.cargo_lock_parts.specs.IdentityOrder.{by_name_version_source, version_cmp}
use Rattle.cargo_lock_merge.specs.declared.moved.Moved.{Moved}
use Rattle.cargo_lock_merge.specs.declared.moved.Named.{Named}

-- the dependencies of the package are in Cargo's order
abbrev pub HasSortedDependencies : PackageData → Type 0
HasSortedDependencies p = IsSorted dependency_order p.dependencies

-- the packages are in Cargo's order, and so are the dependencies of each
pub record AreInCargoOrder (ps : List PackageData) : Type 0 where
  pub packages : IsSorted package_order ps
  pub dependencies : All HasSortedDependencies ps

-- unused patches compare as packages do
abbrev pub patch_order : Identity → Identity → Ordering
patch_order = by_name_version_source (λ d. d.name) (λ d. d.version) (λ d. d.source)
    version_cmp (by_kind_and_url canonical)

-- moved references compare as their packages do: first the packages that depend, and then those on
-- which they depend, as dependencies
abbrev pub moved_order : Moved → Moved → Ordering
moved_order = then_cmp (on (λ r. r.found.merged.from.now) package_order)
    (on (λ r. identity_of r.found.merged.to.now) dependency_order)

-- ---- as the program has them

-- the same of references with the identities of their packages
abbrev pub named_order : Named → Named → Ordering
named_order = then_cmp (on (λ n. n.found.merged.from.now) package_order)
    (on (λ n. n.to) dependency_order)
