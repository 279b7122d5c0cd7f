-- The orders by likenesses are total.
use Rattle.std.specs.Borrow.{Bor}
use Rattle.std.specs.Cmp.{IsEquivalence, IsTotalOrder, nat_cmp_total, on_total, then_total}
use Rattle.std.specs.Option.{option_cmp}
use Rattle.std.specs.Ordering.{on}
use Rattle.std.specs.Cmp.Lexicographic.{nat_list_cmp_total, options_total}
use Rattle.url.specs.Parts.{serialize}
use Rattle.cargo_lock_parts.specs.Identity.{Identity, PackageData, identity_of}
use Rattle.cargo_lock_parts.specs.IdentityLaws.{by_name_version_source-total, version_total}
use Rattle.cargo_lock_parts.specs.Source.{Kind, Source}
use Rattle.cargo_lock_parts.specs.SourceKey.{git_reference_text, kind_number, text_cmp}
use Rattle.cargo_lock_parts.specs.SourceLaws.{source_total}
use Rattle.cargo_lock_diff.specs.declared.likeness.Likeness.{Likeness}
use Rattle.cargo_lock_diff.specs.declared.likeness.Likeness.TheVariants.{Name, Origin, Version, Line, Place, Archive, Whole}
use Rattle.cargo_lock_diff.specs.declared.matching.Placed.{Placed}
use Rattle.cargo_lock_diff.specs.Likeness.{likeness_cmp, release_line}
use Rattle.cargo_lock_diff.specs.Place.{origin_cmp, other_source, place_cmp, placed_identity_cmp, repository_cmp, named_kind, sources_cmp, target_cmp}
use Rattle.cargo_lock_diff.specs.declared.place.Sight.TheVariants.{AsNamed}
use Rattle.std.proofs.lemmas.Cmp.{eq_by_cmp_equiv}
use Rattle.cargo_lock_diff.specs.Matching.{is_alike_at}
use Rattle.cargo_lock_diff.specs.Placing.{are_alike, placed_cmp}
use Rattle.cargo_lock_diff.specs.Targets.{targets_cmp}
use Rattle.cargo_lock_diff.specs.Vouchers.{cmp_at}

repository_total : (seen : Kind → Kind) → IsTotalOrder (repository_cmp seen)
repository_total seen = then_total
    (on_total (λ (s : Source). serialize s.url) nat_list_cmp_total)
    (on_total (λ (s : Source). seen s.kind)
    (then_total (on_total kind_number nat_cmp_total) (on_total git_reference_text nat_list_cmp_total)))

pub place_total : IsTotalOrder place_cmp
place_total = on_total other_source (options_total source_total)

pub origin_total : IsTotalOrder origin_cmp
origin_total = on_total other_source (options_total (repository_total (λ kind. kind)))

named_total : IsTotalOrder (sources_cmp AsNamed)
named_total = on_total other_source (options_total (repository_total named_kind))

pub target_total : IsTotalOrder target_cmp
target_total = by_name_version_source-total (λ (d : Identity). d.name)
    (λ (d : Identity). d.version) (λ (d : Identity). d.source) version_total named_total

pub targets_total : IsTotalOrder targets_cmp
targets_total = then_total (on_total (λ (t : Identity × Identity). t.0) target_total) (on_total (λ (t : Identity × Identity). t.1) target_total)

pub placed_identity_total : IsTotalOrder placed_identity_cmp
placed_identity_total = by_name_version_source-total (λ (d : Identity). d.name)
    (λ (d : Identity). d.version) (λ (d : Identity). d.source) version_total place_total

name_total : IsTotalOrder (on (λ (p : PackageData). p.name) text_cmp)
name_total = on_total (λ (p : PackageData). p.name) nat_list_cmp_total

checksum_total : IsTotalOrder (on (λ (p : PackageData). p.checksum) (option_cmp text_cmp))
checksum_total = on_total (λ (p : PackageData). p.checksum) (options_total nat_list_cmp_total)

pub likeness_total : (likeness : Likeness) → IsTotalOrder (likeness_cmp likeness)
likeness_total Name = name_total
likeness_total Origin = then_total name_total (on_total (λ (p : PackageData). p.source) (options_total origin_total))
likeness_total Version = then_total name_total (on_total (λ (p : PackageData). p.version) version_total)
likeness_total Line = then_total (then_total name_total (on_total (λ (p : PackageData). p.source) (options_total origin_total)))
    (on_total (λ (p : PackageData). release_line p.version) nat_list_cmp_total)
likeness_total Place = on_total identity_of placed_identity_total
likeness_total Archive = then_total (then_total name_total (on_total (λ (p : PackageData). p.version) version_total)) checksum_total
likeness_total Whole = then_total (then_total (on_total identity_of placed_identity_total) checksum_total)
    (on_total (λ (p : PackageData). p.replace) (options_total placed_identity_total))

pub placed_total : (likeness : Likeness) → IsTotalOrder (placed_cmp likeness)
placed_total likeness = on_total (λ (p : Placed). p.item.now) (likeness_total likeness)

pub placed_laws : (likeness : Likeness) → IsEquivalence (are_alike likeness)
placed_laws likeness = eq_by_cmp_equiv (placed_total likeness)

pub at_total : (likeness : Likeness) → IsTotalOrder (cmp_at likeness)
at_total likeness = on_total (λ (b : Bor PackageData). b.now) (likeness_total likeness)

pub laws_at : (likeness : Likeness) → IsEquivalence (is_alike_at likeness)
laws_at likeness = eq_by_cmp_equiv (at_total likeness)
