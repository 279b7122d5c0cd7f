use Rattle.std.proofs.Common.{◌≡◌, ◌∙◌, ap, arith, map, option_map, take}
use Rattle.std.proofs.lemmas.List.{take_all}
use Rattle.cargo_lock_bom.specs.Component.{component_at}
use Rattle.cargo_lock_bom.specs.Options.{license_of}
use Rattle.printing.specs.Json.{extended}
use Rattle.cargo_lock_bom.proofs.Writing.{array_ends, items_so_far, next}
use Rattle.cargo_lock_bom.proofs.component.put_components.Goals as goal

pub loop-node-init : goal.loop-node-init
loop-node-init c = c.in_ok-begin_array.ensures.is

pub loop-node-preserved : goal.loop-node-preserved
loop-node-preserved c =
    next c.args.out.now (component_at c.args.components.now.graph.now (map (option_map license_of) c.args.components.now.licenses.now)) c.args.nodes.now c.loop-node.node-index 0 c.new.result c.loop-node-test.true c.new.ensures
    c.loop-node.invariant c.in_ok-put_component.ensures

pub returns : goal.returns
returns c =
    let f = (component_at c.args.components.now.graph.now (map (option_map license_of) c.args.components.now.licenses.now)) in
    let whole : take c.loop-node.node-index c.args.nodes.now ≡ c.args.nodes.now = take_all _ _ (omega arith) in
    array_ends f c.args.nodes.now
    (c.loop-node.invariant ∙ ap (λ xs. extended c.args.out.now (items_so_far f xs)) whole)
    c.end_array.ensures
