use Rattle.std.proofs.Common.{◌≡◌, ◌<◌, List, Some, length, slice_get, subst, sym}
use Rattle.cargo_lock_parts.specs.Identity.{PackageData}
use Rattle.cargo_lock_merge_core.proofs.linked.Linked.package.Goals as goal

pub package-requires : goal.package-requires
package-requires c =
    subst (λ (ps : List PackageData). c.args.at < length ps) (sym c.self.view_is) c.requires

pub returns : goal.returns
returns c =
    subst (λ (ps : List PackageData). slice_get ps c.args.at ≡ Some c.«package».result.now)
    c.self.view_is c.«package».ensures
