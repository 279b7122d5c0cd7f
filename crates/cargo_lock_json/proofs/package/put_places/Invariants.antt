use Rattle.std.proofs.Common.{◌≡◌, take}
use Rattle.printing.specs.Json.{extended}
use Rattle.printing.proofs.Arrays.{opened}
use Rattle.cargo_lock_json.proofs.Pieces.{place_tokens}
use Rattle.cargo_lock_json.proofs.package.put_places.Given as goal

abbrev pub invariant-loop-lead : goal.invariant-loop-lead
invariant-loop-lead l =
    l.out ≡ extended l.fn.out (opened place_tokens (take l.lead-index l.leads))
