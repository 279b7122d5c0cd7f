use Rattle.std.proofs.Common.{◌≡◌, take}
use Rattle.printing.specs.Json.{extended}
use Rattle.printing.proofs.Arrays.{opened}
use Rattle.cargo_lock_json.proofs.Pieces.{lost_tokens}
use Rattle.cargo_lock_json.proofs.package.put_unresolved.Given as goal

abbrev pub invariant-loop-lead : goal.invariant-loop-lead
invariant-loop-lead l =
    l.out ≡ extended l.fn.out (opened lost_tokens (take l.lead-index l.leads))
