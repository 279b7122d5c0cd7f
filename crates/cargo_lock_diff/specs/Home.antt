-- Homes: where packages come from, whatever branch, tag or revision of a repository is asked for,
-- and whatever its commit is.
use Rattle.std.specs.Prelude.{Bool, false, Option, Some, None, if◌then◌else◌}
use Rattle.std.specs.Option.{option_cmp}
use Rattle.std.specs.declared.cmp.Ordering.{Ordering}
use Rattle.std.specs.Ordering.{on, then_cmp, eq_by_cmp}
use Rattle.cargo_lock_parts.specs.Identity.{PackageData}
use Rattle.cargo_lock_parts.specs.Source.{Kind, Source, Git, DefaultBranch}
use Rattle.cargo_lock_parts.specs.SourceKey.{text_cmp}
use Rattle.cargo_lock_order.specs.Canonical.{canonical, is_canonically_crates_io}
use Rattle.cargo_lock_order.specs.Order.{kind_order}
use Rattle.cargo_lock_diff.specs.declared.likeness.Likeness.TheVariants.{Name}
use Rattle.cargo_lock_diff.specs.Likeness.{is_alike}

-- the kind, without the branch, tag or revision of a repository
abbrev pub bare_kind : Kind → Kind
bare_kind (Git reference) = Git DefaultBranch
bare_kind other = other

-- the order of sources by kind and URL, as Cargo compares URLs
abbrev pub bare_cmp : Source → Source → Ordering
bare_cmp = then_cmp (on (λ s. bare_kind s.kind) kind_order) (on (λ s. canonical s.url) text_cmp)

-- the source, unless Cargo takes it for crates.io
abbrev pub unless_crates_io : Source → Option Source
unless_crates_io s = if is_canonically_crates_io s then None else Some s

-- the order of sources by home: crates.io is one home, however it is spelt, and before the others
abbrev pub home_cmp : Source → Source → Ordering
home_cmp = on unless_crates_io (option_cmp bare_cmp)

-- packages with these sources come from one home: the sources are one, or neither package has a
-- source and they have one name
abbrev pub is_home_of_both : PackageData → PackageData → Option Source → Option Source → Bool
is_home_of_both p q None None = is_alike Name p q
is_home_of_both p q None (Some t) = false
is_home_of_both p q (Some s) None = false
is_home_of_both p q (Some s) (Some t) = eq_by_cmp home_cmp s t

-- the packages come from one home
abbrev pub have_one_home : PackageData → PackageData → Bool
have_one_home p q = is_home_of_both p q p.source q.source
