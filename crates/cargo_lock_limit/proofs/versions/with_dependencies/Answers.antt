use Rattle.std.proofs.Common.{◌≡◌, ◌+◌, ap, subst}
use Rattle.semver.specs.Identifiers.{parts_of}
use Rattle.semver.specs.Parse.{Parts}
use Rattle.cargo_lock_parts.specs.Identity.{Identity}
use Rattle.cargo_lock_limit.specs.Lengths.{capped, version_length}
use Rattle.cargo_lock_limit.proofs.Counting.{counted-next}
use Rattle.cargo_lock_limit.proofs.versions.with_dependencies.Goals as goal

pub loop-dependency-preserved : goal.loop-dependency-preserved
loop-dependency-preserved c =
    let same : parts_of c.dependency.inside.version ≡ c.dependency-item.result.version = ap (λ (d : Identity). d.version) c.dependency.view_is in
    counted-next (λ (d : Identity). version_length d.version) c.args.dependencies.now c.loop-dependency.dependency-index c.dependency-item.result c.args.number c.loop-dependency.total
    c.with_version-total.result c.loop-dependency-test.true c.dependency-item.is c.loop-dependency.invariant
    (subst (λ (v : Parts). c.with_version-total.result ≡ capped (c.loop-dependency.total + version_length v)) same c.with_version-total.ensures)
