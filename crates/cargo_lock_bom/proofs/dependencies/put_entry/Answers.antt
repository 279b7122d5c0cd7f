use Rattle.std.proofs.Common.{List, ℕ, ap, map, string_bytes}
use Rattle.serde_json.specs.Data.{array, string}
use Rattle.serde_json.specs.View.{items_of}
use Rattle.cargo_lock_bom.specs.Contents.{text_at}
use Rattle.cargo_lock_bom.specs.Tokens.{data_tokens}
use Rattle.printing.proofs.Drafts.{as_tokens}
use Rattle.printing.proofs.Behind.{then}
use Rattle.cargo_lock_bom.proofs.dependencies.put_entry.Goals as goal

pub returns : goal.returns
returns c =
    let on = ap (λ (ks : List ℕ). data_tokens (array (items_of (map (λ k. string (text_at (map string_bytes c.args.texts.now) k)) ks)))) c.as_slice.ensures.value in
    then c.in_ok-begin_object.ensures (then c.in_ok-key.ensures (then (as_tokens on c.in_ok-put_texts.ensures)
    (then c.in_ok-put_own_text.ensures c.end_object.ensures)))
