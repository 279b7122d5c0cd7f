use Rattle.std.proofs.Common.{◌≡◌, take}
use Rattle.json.specs.Tree.{json_tokens}
use Rattle.printing.specs.Json.{extended}
use Rattle.printing.proofs.Arrays.{opened}
use Rattle.cargo_lock_json.specs.Dependency.{listed_dependency_json}
use Rattle.cargo_lock_json.proofs.package.put_dependencies.Given as goal

abbrev pub invariant-loop-dependency : goal.invariant-loop-dependency
invariant-loop-dependency l = l.out ≡ extended l.fn.out
    (opened (λ x. json_tokens (listed_dependency_json x)) (take l.dependency-index l.dependencies))
