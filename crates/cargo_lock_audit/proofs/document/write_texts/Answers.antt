use Rattle.std.proofs.Common.{String, arith, string_bytes}
use Rattle.std.specs.declared.alloc.Global.{Global}
use Rattle.json.specs.Json.{string}
use Rattle.printing.proofs.Arrays.{array_mapped}
use Rattle.cargo_lock_audit.proofs.document.write_texts.Goals as goal

pub returns : goal.returns
returns c =
    array_mapped string (λ (t : String Global). string_bytes t) c.args.texts.now
    c.loop-text.text-index (omega arith) c.loop-text.invariant c.end_array.ensures
