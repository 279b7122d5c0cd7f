use Rattle.std.proofs.Common.{arith}
use Rattle.std.specs.Borrow.{Bor}
use Rattle.cargo_lock_parts.specs.Identity.{PackageData}
use Rattle.cargo_lock_display.specs.PackageJson.{package_json}
use Rattle.printing.proofs.Arrays.{array_mapped}
use Rattle.cargo_lock_display.proofs.package_json.put_packages.Goals as goal

pub returns : goal.returns
returns c =
    array_mapped package_json (λ (p : Bor PackageData). p.now) c.args.packages.now
    c.loop-one.one-index (omega arith) c.loop-one.invariant c.end_array.ensures
