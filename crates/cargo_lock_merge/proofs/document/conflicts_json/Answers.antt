use Rattle.std.proofs.Common.{◌∙◌, IfOk, List, [], None, ap, codes, map, string_bytes, subst, sym}
use Rattle.std.proofs.lemmas.Simd.{map-map}
use Rattle.json.specs.Json.{Json}
use Rattle.cargo_lock_merge.specs.Document.{conflict_json, item_data, item_json, merge_document}
use Rattle.printing.specs.Json.{IsJsonText}
use Rattle.cargo_lock_merge.proofs.document.conflicts_json.Goals as goal

pub returns : goal.returns
returns c =
    let items = ap (map item_json) c.deref.ensures.value
    ∙ sym (map-map conflict_json item_data c.in_ok-items.items.items) ∙ ap (map conflict_json) c.in_ok-items.ensures in
    subst (λ (js : List Json). IfOk c.document_text.result (λ text. IsJsonText (merge_document (codes "conflicts") None js [] [] [] None) (string_bytes text)))
    items c.document_text.ensures
