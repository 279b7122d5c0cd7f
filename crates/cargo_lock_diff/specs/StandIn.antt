-- Packages that stand for the homes of others, so that homes compare as Cargo compares packages. No
-- public contract cites these definitions.
use Rattle.std.specs.Prelude.{◌≡◌, true, false, List, [], Option, Some, None}
use Rattle.std.specs.Prelude.{IsSorted}
use Rattle.std.specs.Borrow.{Bor}
use Rattle.std.specs.List.{list_any}
use Rattle.std.specs.Ordering.{eq_by_cmp}
use Rattle.semver.specs.Parse.{Parts}
use Rattle.cargo_lock_parts.specs.Identity.{PackageData}
use Rattle.cargo_lock_parts.specs.Source.{Source}
use Rattle.cargo_lock_order.specs.Canonical.{is_canonically_crates_io}
use Rattle.cargo_lock_order.specs.Order.{package_order}
use Rattle.cargo_lock_diff.specs.declared.likeness.Likeness.TheVariants.{Name}
use Rattle.cargo_lock_diff.specs.Difference.{referred_packages}
use Rattle.cargo_lock_diff.specs.Home.{bare_kind, have_one_home}
use Rattle.cargo_lock_diff.specs.Vouchers.{cmp_at}

-- the version of what stands for a name, and of what stands for a source
abbrev pub version_of_names : Parts
version_of_names = (0, 0, 0, [], [])

abbrev pub version_of_sources : Parts
version_of_sources = (1, 0, 0, [], [])

-- the source of what stands for a source: none for crates.io, or else one of its kind and URL, which
-- asks nothing of a repository
abbrev pub IsBare : Source → Option Source → Type 0
IsBare s None = is_canonically_crates_io s ≡ true
IsBare s (Some b) = (is_canonically_crates_io s ≡ false) × (b.kind ≡ bare_kind s.kind)
    × (b.url ≡ s.url)

-- the package stands for the home of p, where p has this source
abbrev pub StandsForSource : PackageData → Option Source → PackageData → Type 0
StandsForSource p None stand_in = (stand_in.name ≡ p.name) × (stand_in.version ≡ version_of_names)
    × (stand_in.source ≡ None)
StandsForSource p (Some s) stand_in = (stand_in.name ≡ []) × (stand_in.version ≡ version_of_sources)
    × IsBare s stand_in.source

-- the package stands for the home of p
abbrev pub StandsFor : PackageData → PackageData → Type 0
StandsFor p stand_in = StandsForSource p p.source stand_in

-- packages in the order of their names, and what stands for their homes, in order
pub record AreResidents (by_name : List (Bor PackageData)) (homes : List PackageData) : Type 0
  where
    pub names_sorted : IsSorted (cmp_at Name) by_name
    pub homes_sorted : IsSorted package_order homes
    pub known : (p stand_in : PackageData) → StandsFor p stand_in
        → list_any (eq_by_cmp package_order stand_in) homes
        ≡ list_any (have_one_home p) (referred_packages by_name)
