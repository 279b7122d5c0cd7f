use Rattle.std.proofs.Common.{option_map, string_bytes, subst, sym}
use Rattle.cargo_lock_bom.specs.Component.{root_component}
use Rattle.printing.specs.Json.{Adds}
use Rattle.cargo_lock_bom.proofs.Members.{metadata-tokens}
use Rattle.printing.proofs.Behind.{then}
use Rattle.cargo_lock_bom.proofs.metadata.put_metadata.Goals as goal

pub returns : goal.returns
returns c =
    subst (Adds c.end_object.result c.args.out.now c.end_object.new.self) (sym (metadata-tokens c.args.options.now.tool_version c.args.options.now.authors c.args.options.now.properties
    (root_component c.args.graph.now c.args.options.now.licenses c.args.contents.now.root) (option_map string_bytes c.args.contents.now.time)))
    (rw (sym c.options.view_is)
    (then c.in_ok-begin_object.ensures (then c.in_ok-put_authors.ensures (then c.in_ok-put_root.ensures
    (then c.in_ok-put_lifecycles.ensures (then c.in_ok-put_properties.ensures (then c.in_ok-put_text_if.ensures
    (then c.in_ok-put_tools.ensures c.end_object.ensures))))))))
