use Rattle.std.proofs.Common.{arith}
use Rattle.std.specs.Borrow.{Bor}
use Rattle.cargo_lock_parts.specs.Identity.{Identity}
use Rattle.cargo_lock_display.specs.PackageJson.{dependency_json}
use Rattle.printing.proofs.Arrays.{array_mapped}
use Rattle.cargo_lock_diff.proofs.change_json.put_dependencies.Goals as goal

pub returns : goal.returns
returns c =
    array_mapped dependency_json (λ (d : Bor Identity). d.now) c.args.dependencies.now
    c.loop-dependency.dependency-index (omega arith) c.loop-dependency.invariant
    c.end_array.ensures
