use Rattle.std.proofs.Common.{◌≡◌, take}
use Rattle.json.specs.Tree.{json_tokens}
use Rattle.printing.specs.Json.{extended}
use Rattle.printing.proofs.Arrays.{opened}
use Rattle.cargo_lock_display.specs.PackageJson.{package_json}
use Rattle.cargo_lock_display.proofs.package_json.put_packages.Given as goal

abbrev pub invariant-loop-one : goal.invariant-loop-one
invariant-loop-one l = l.out ≡ extended l.fn.out
    (opened (λ p. json_tokens (package_json p.now)) (take l.one-index l.packages))
