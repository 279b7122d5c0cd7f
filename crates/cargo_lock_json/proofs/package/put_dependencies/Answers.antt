use Rattle.std.proofs.Common.{arith}
use Rattle.cargo_lock_json.specs.Dependency.{listed_dependency_json}
use Rattle.printing.proofs.Arrays.{array_written}
use Rattle.cargo_lock_json.proofs.package.put_dependencies.Goals as goal

pub returns : goal.returns
returns c =
    array_written listed_dependency_json c.args.dependencies.now
    c.loop-dependency.dependency-index (omega arith) c.loop-dependency.invariant
    c.end_array.ensures
