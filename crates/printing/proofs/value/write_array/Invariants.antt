use Rattle.std.proofs.Common.{◌≡◌, take}
use Rattle.json.specs.Tree.{json_tokens}
use Rattle.printing.specs.Json.{extended}
use Rattle.printing.proofs.Arrays.{opened}
use Rattle.printing.proofs.value.write_array.Given as goal

abbrev pub invariant-loop-value : goal.invariant-loop-value
invariant-loop-value g l = l.out
    ≡ extended l.fn.out (opened (λ v. json_tokens (g.T.ToJson.json v)) (take l.value-index l.values))
