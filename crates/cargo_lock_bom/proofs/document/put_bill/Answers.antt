use Rattle.std.proofs.Common.{◌∙◌, ◌<◌, All, List, ℕ, ap, length, map, option_map, string_bytes, subst, sym}
use Rattle.serde_json.specs.Data.{Data, array}
use Rattle.serde_json.specs.View.{items_of}
use Rattle.cargo_lock_bom.specs.declared.dependencies.Entry.{Entry}
use Rattle.cargo_lock_bom.specs.Component.{IsComponent, component_at}
use Rattle.cargo_lock_bom.specs.Contents.{entry_by, entry_for, metadata_with}
use Rattle.cargo_lock_bom.specs.Tokens.{data_tokens}
use Rattle.printing.specs.Json.{Adds}
use Rattle.cargo_lock_bom.specs.Options.{OptionsData}
use Rattle.lists.proofs.Places.{places-within}
use Rattle.cargo_lock_bom.proofs.Members.{bill-tokens}
use Rattle.cargo_lock_bom.proofs.Texts.{entries_same}
use Rattle.printing.proofs.Drafts.{as_tokens}
use Rattle.printing.proofs.Behind.{then}
use Rattle.cargo_lock_bom.proofs.document.put_bill.Goals as goal

pub put_components-requires-clause-within : goal.put_components-requires-clause-within
put_components-requires-clause-within c =
    let n : ℕ = length c.args.graph.now.packages in
    subst (λ (ks : List ℕ). All (λ k. k < n) ks) (sym c.as_slice-nodes.ensures.value)
    (places-within (IsComponent c.args.graph.now c.args.options.now c.args.contents.now.root) n c.args.contents.now.nodes.items c.requires.are_others)

pub returns : goal.returns
returns c =
    let graph = c.args.graph.now in
    let options = c.args.options.now in
    let contents = c.args.contents.now in
    let licenses = ap (λ (o : OptionsData). data_tokens (array (items_of (map (component_at graph o.licenses) c.as_slice-nodes.result.now)))) c.options.view_is in
    let nodes = ap (λ (ks : List ℕ). data_tokens (array (items_of (map (component_at graph options.licenses) ks)))) c.as_slice-nodes.ensures.value in
    let texts = ap (map string_bytes) c.as_slice-texts.ensures.value ∙ c.requires.are_texts in
    let listed = ap (λ (es : List Entry). data_tokens (array (items_of (map (entry_by (map string_bytes c.as_slice-texts.result.now)) es)))) c.as_slice.ensures.value in
    let entries = ap (λ (ds : List Data). data_tokens (array (items_of ds))) (entries_same graph.packages (map string_bytes c.as_slice-texts.result.now) contents.entries.items texts) in
    subst (Adds c.end_object.result c.args.out.now c.end_object.new.self)
    (sym (bill-tokens (option_map string_bytes c.args.serial.now) (map (component_at graph options.licenses) contents.nodes.items)
    (map (entry_for graph.packages) contents.entries.items) (metadata_with graph options contents)))
    (then c.in_ok-begin_object.ensures (then c.in_ok-string_member.ensures (then c.in_ok-key.ensures
    (then (as_tokens (licenses ∙ nodes) c.in_ok-put_components.ensures) (then c.in_ok-key-2.ensures
    (then (as_tokens (listed ∙ entries) c.in_ok-put_entries.ensures) (then c.in_ok-key-3.ensures
    (then c.in_ok-put_metadata.ensures (then c.in_ok-put_text_if.ensures (then c.in_ok-string_member-2.ensures
    (then c.in_ok-number_member.ensures c.end_object.ensures)))))))))))
