use Rattle.std.proofs.Common.{◌≡◌, string_bytes, take}
use Rattle.json.specs.Json.{string}
use Rattle.json.specs.Tree.{json_tokens}
use Rattle.printing.specs.Json.{extended}
use Rattle.printing.proofs.Arrays.{opened}
use Rattle.cargo_lock_audit.proofs.document.write_texts.Given as goal

-- the texts so far are written
abbrev pub invariant-loop-text : goal.invariant-loop-text
invariant-loop-text l = l.out ≡ extended l.fn.out
    (opened (λ t. json_tokens (string (string_bytes t))) (take l.text-index l.texts))
