use Rattle.std.proofs.Common.{◌≡◌, ◌∙◌, ap, arith, sym, take}
use Rattle.std.proofs.lemmas.List.{take_all}
use Rattle.std.proofs.lemmas.Simd.{map-map}
use Rattle.serde_json.specs.Data.{array}
use Rattle.serde_json.specs.View.{items_of}
use Rattle.cargo_lock_bom.specs.Tokens.{data_tokens}
use Rattle.printing.specs.Json.{extended}
use Rattle.cargo_lock_bom.specs.Metadata.{property_object}
use Rattle.cargo_lock_bom.specs.Options.{property_of}
use Rattle.cargo_lock_bom.specs.declared.options.Property.{Property}
use Rattle.printing.proofs.Drafts.{as_tokens}
use Rattle.cargo_lock_bom.proofs.Writing.{array_ends, items_so_far, next}
use Rattle.cargo_lock_bom.proofs.metadata.put_property_list.Goals as goal

pub loop-property-init : goal.loop-property-init
loop-property-init c = c.in_ok-begin_array.ensures.is

pub loop-property-preserved : goal.loop-property-preserved
loop-property-preserved c =
    next c.args.out.now (λ (p : Property). property_object (property_of p)) c.args.properties.now c.loop-property.property-index c.property-item.result c.property-item.result c.loop-property-test.true c.property-item.is
    c.loop-property.invariant c.in_ok-put_property.ensures

pub returns : goal.returns
returns c =
    let f = (λ (p : Property). property_object (property_of p)) in
    let whole : take c.loop-property.property-index c.args.properties.now ≡ c.args.properties.now = take_all _ _ (omega arith) in
    as_tokens (ap (λ ds. data_tokens (array (items_of ds))) (sym (map-map property_object property_of c.args.properties.now)))
    (array_ends f c.args.properties.now
    (c.loop-property.invariant ∙ ap (λ xs. extended c.args.out.now (items_so_far f xs)) whole)
    c.end_array.ensures)
