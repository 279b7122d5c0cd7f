-- The bill with the contents that are chosen for it.
use Rattle.std.proofs.Common.{◌≡◌, ◌∙◌, ℕ, Bool, true, List, ap, map, refl, sym}
use Rattle.json.specs.Print.{print}
use Rattle.serde_json.specs.Data.{Data}
use Rattle.serde_json.proofs.Texts.{print-outline}
use Rattle.cargo_lock_graph.specs.Edges.{GraphData}
use Rattle.cargo_lock_bom.specs.declared.contents.Contents.{Contents}
use Rattle.cargo_lock_bom.specs.Component.{component_at}
use Rattle.cargo_lock_bom.specs.Contents.{AreContents, IsTextOfData, bill_with, entry_for, metadata_with}
use Rattle.printing.specs.declared.document.Layout.{Layout}
use Rattle.cargo_lock_bom.specs.Document.{IsBill, ReadsAsBill}
use Rattle.cargo_lock_bom.specs.Tokens.{data_tokens}
use Rattle.cargo_lock_bom.specs.Options.{OptionsData}
use Rattle.cargo_lock_bom.specs.References.{HaveDistinctReferences}
use Rattle.cargo_lock_bom.specs.Serial.{numbered, serial_text, with_serial}
use Rattle.cargo_lock_bom.proofs.Depths.{bill_low}
use Rattle.cargo_lock_bom.proofs.Ordered.{bill_order}
use Rattle.cargo_lock_bom.proofs.Outlines.{read_text}

-- the serial number is that of the text without it
pub serial_of_text : (has_serial : Bool) (d : Data) (text serial : List ℕ) → has_serial ≡ true → text ≡ print (data_tokens d)
    → serial ≡ serial_text text → with_serial serial d ≡ numbered has_serial d
serial_of_text has_serial d text serial asked is made =
    ap (λ (s : List ℕ). with_serial s d) (made ∙ ap serial_text (is ∙ print-outline d)) ∙ ap (λ (b : Bool). numbered b d) (sym asked)

bill_of : (graph : GraphData) (options : OptionsData) (contents : Contents) → HaveDistinctReferences graph.packages → AreContents graph options contents
    → IsBill graph options (numbered options.has_serial (bill_with graph options contents))
bill_of graph options contents distinct are = record {
  root = contents.root;
  is_root = are.is_root;
  distinct = distinct;
  plain = bill_with graph options contents;
  about = record {
    components = map (component_at graph options.licenses) contents.nodes.items;
    entries = map (entry_for graph.packages) contents.entries.items;
    metadata = metadata_with graph options contents;
    are_components = record { nodes = contents.nodes.items; are_others = are.are_others; are = refl };
    are_entries = are.are_entries;
    is_metadata = record { time = _; is_time = are.is_time; is = refl };
    is = refl;
  };
  is = refl;
}

-- the text of the bill reads as the bill
pub bill_text : (graph : GraphData) (options : OptionsData) (contents : Contents) (layout : Layout) (text : List ℕ) → HaveDistinctReferences graph.packages
    → AreContents graph options contents → IsTextOfData layout (numbered options.has_serial (bill_with graph options contents)) text
    → ReadsAsBill graph options text
bill_text graph options contents layout text distinct are is =
    let bill = numbered options.has_serial (bill_with graph options contents) in
    let is_bill = bill_of graph options contents distinct are in
    record {
      bill = bill;
      is = is_bill;
      reads = read_text bill text is.has (bill_low graph options bill is_bill) (bill_order graph options bill is_bill);
    }
