use Rattle.std.proofs.Common.{◌∙◌, ap}
use Rattle.std.specs.Borrow.{Bor}
use Rattle.std.specs.Cmp.{on_total}
use Rattle.std.proofs.lemmas.List.{take_all}
use Rattle.semver.specs.Identifiers.{parts_of}
use Rattle.semver.specs.declared.Version.{Version}
use Rattle.std.specs.Ordering.{eq_by_cmp, on}
use Rattle.std.specs.Set.{is_member}
use Rattle.cargo_lock_parts.specs.IdentityOrder.{version_cmp}
use Rattle.cargo_lock_parts.specs.IdentityLaws.{version_total}
use Rattle.cargo_lock_query.proofs.Distinct.{distinct-counted, distinct-next}
use Rattle.cargo_lock_query.proofs.listing.count_different.Goals as goal

pub loop-version-preserved : goal.loop-version-preserved
loop-version-preserved c =
    distinct-next (on_total (λ (v : Bor Version). parts_of v.now) version_total) c.args.versions.now c.loop-version.version-index c.version-item.result c.loop-version.different c.insert.new.self c.loop-version-test.true c.version-item.is c.in_ok-insert.ensures.updates.0 c.loop-version.invariant

pub returns : goal.returns
returns c =
    let parts = λ (v : Bor Version). parts_of v.now in
    c.len.ensures.len ∙ distinct-counted parts version_total c.args.versions.now c.loop-version.different
    (λ q. c.loop-version.invariant q ∙ ap (λ vs. is_member (eq_by_cmp (on parts version_cmp)) vs q) (take_all c.loop-version.version-index c.args.versions.now c.loop-version-test.false))
    c.len.ensures.ordered
