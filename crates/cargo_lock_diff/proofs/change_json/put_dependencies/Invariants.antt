use Rattle.std.proofs.Common.{◌≡◌, take}
use Rattle.json.specs.Tree.{json_tokens}
use Rattle.printing.specs.Json.{extended}
use Rattle.printing.proofs.Arrays.{opened}
use Rattle.cargo_lock_display.specs.PackageJson.{dependency_json}
use Rattle.cargo_lock_diff.proofs.change_json.put_dependencies.Given as goal

abbrev pub invariant-loop-dependency : goal.invariant-loop-dependency
invariant-loop-dependency l = l.out ≡ extended l.fn.out
    (opened (λ d. json_tokens (dependency_json d.now)) (take l.dependency-index l.dependencies))
