-- Where packages come from, as differences compare it: the registry of crates.io is the same place
-- by either of its two indexes, and any other source is a place by its key.
use Rattle.std.specs.Prelude.{Option, Some, None, bytes_eq, codes, if◌then◌else◌}
use Rattle.std.specs.Option.{option_cmp}
use Rattle.std.specs.declared.cmp.Ordering.{Ordering}
use Rattle.std.specs.Ordering.{on, then_cmp}
use Rattle.url.specs.Parts.{serialize}
use Rattle.cargo_lock_parts.specs.Identity.{Identity}
use Rattle.cargo_lock_parts.specs.IdentityOrder.{by_name_version_source, version_cmp}
use Rattle.cargo_lock_parts.specs.Source.{Kind, Source, Git, Branch, DefaultBranch}
use Rattle.cargo_lock_parts.specs.SourceKey.{kind_cmp, source_cmp, text_cmp}
use Rattle.cargo_lock_parts.specs.SourceShown.{is_default_registry}
use Rattle.cargo_lock_diff.specs.declared.place.Sight.{Sight}
use Rattle.cargo_lock_diff.specs.declared.place.Sight.TheVariants.{AsPlace, AsOrigin, AsNamed}

-- the source, unless it is the registry of crates.io
abbrev pub other_source : Source → Option Source
other_source s = if is_default_registry s then None else Some s

-- the kind by which a dependency names a repository: before V3 the branch `master` was written as
-- the default branch
abbrev pub named_kind : Kind → Kind
named_kind (Git (Branch text)) =
    if bytes_eq text (codes "master") then Git DefaultBranch else Git (Branch text)
named_kind other = other

-- the order by URL, kind and reference, without the commit; the function may replace the kind
abbrev pub repository_cmp : (Kind → Kind) → Source → Source → Ordering
repository_cmp seen =
    then_cmp (on (λ s. serialize s.url) text_cmp) (on (λ s. seen s.kind) kind_cmp)

-- the order of sources other than crates.io: whole, without the commit, or as dependencies name
-- them
abbrev pub others_cmp : Sight → Source → Source → Ordering
others_cmp AsPlace = source_cmp
others_cmp AsOrigin = repository_cmp (λ kind. kind)
others_cmp AsNamed = repository_cmp named_kind

-- the same for all sources: crates.io is before the others
abbrev pub sources_cmp : Sight → Source → Source → Ordering
sources_cmp sight = on other_source (option_cmp (others_cmp sight))

-- sources compare by place
abbrev pub place_cmp : Source → Source → Ordering
place_cmp = sources_cmp AsPlace

-- sources compare by origin: by place, without the commit
abbrev pub origin_cmp : Source → Source → Ordering
origin_cmp = sources_cmp AsOrigin

-- identities compare by name, version and place
abbrev pub placed_identity_cmp : Identity → Identity → Ordering
placed_identity_cmp = by_name_version_source (λ d. d.name) (λ d. d.version) (λ d. d.source)
    version_cmp place_cmp

-- identities compare by name, version and source as dependencies name it
abbrev pub target_cmp : Identity → Identity → Ordering
target_cmp = by_name_version_source (λ d. d.name) (λ d. d.version) (λ d. d.source)
    version_cmp (sources_cmp AsNamed)
