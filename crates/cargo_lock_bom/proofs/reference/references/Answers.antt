use Rattle.std.proofs.Common.{◌∙◌, ◌++◌, ◌∷◌, [], List, ℕ, String, Global, ap, map, slice_get, string_bytes, sym, take}
use Rattle.std.proofs.lemmas.List.{map-append}
use Rattle.cargo_lock_bom.specs.References.{package_reference}
use Rattle.cargo_lock_bom.proofs.Places.{take-next}
use Rattle.cargo_lock_bom.proofs.reference.references.Goals as goal

pub loop-node-preserved : goal.loop-node-preserved
loop-node-preserved c =
    let packages = c.args.graph.now.packages in
    let node = c.loop-node.node in
    let made = c.loop-node.made.items in
    let text = c.in_ok-reference.field-0 in
    let p = c.index.result.now in
    let grown = ap (map package_reference) (take-next packages node p (sym (c.index.ensures ∙ ap (slice_get packages) c.new.ensures)))
    ∙ map-append package_reference (take node packages) (p ∷ []) in
    ap (λ (ts : List (String Global)). map string_bytes ts) c.in_ok-push.ensures.items ∙ map-append string_bytes made (text ∷ [])
    ∙ ap (λ (ts : List (List ℕ)). ts ++ string_bytes text ∷ []) c.loop-node.invariant
    ∙ ap (λ (t : List ℕ). map package_reference (take node packages) ++ t ∷ []) c.in_ok-reference.ensures
    ∙ sym grown
