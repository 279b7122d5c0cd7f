use Rattle.std.proofs.Common.{◌<◌, ◌∙◌, All, List, ap, filter, length, map, not, subst, sym, ℕ}
use Rattle.lists.proofs.Places.{places-within}
use Rattle.cargo_lock_bom.specs.Contents.{entry_for}
use Rattle.cargo_lock_bom.specs.Dependencies.{AreEntries}
use Rattle.cargo_lock_bom.specs.Root.{IsInBill, is_root_at}
use Rattle.cargo_lock_bom.proofs.Entries.{places-but-root}
use Rattle.cargo_lock_bom.proofs.contents.contents_of.Goals as goal

pub entries-requires : goal.entries-requires
entries-requires c =
    subst (λ (ks : List ℕ). All (λ k. k < length c.args.graph.now.packages) ks) (sym c.as_slice-2.ensures.value)
    (places-within _ (length c.args.graph.now.packages) c.in_ok-listed.listed.items c.in_ok-listed.ensures)

pub returns : goal.returns
returns c =
    let graph = c.args.graph.now in
    let root = c.in_ok-root.root in
    let listed : List ℕ = c.in_ok-listed.listed.items in
    rw (sym c.options.view_is) record {
      is_root = c.in_ok-root.ensures.root;
      within = c.in_ok-root.ensures.within;
      are_others = places-but-root (IsInBill graph c.options.inside.listed c.options.inside.root) root (length graph.packages) listed c.in_ok-nodes.nodes.items c.in_ok-listed.ensures
          (c.in_ok-nodes.ensures ∙ ap (filter (λ (k : ℕ). not (is_root_at root k))) c.as_slice.ensures.value);
      are_entries = record {
        nodes = listed;
        are_nodes = c.in_ok-listed.ensures;
        are_entries = subst (λ (ks : List ℕ). AreEntries graph root ks (map (entry_for graph.packages) c.in_ok-entries.entries.items)) c.as_slice-2.ensures.value c.in_ok-entries.ensures;
      };
      are_texts = c.requires.texts;
      is_time = c.in_ok-time.ensures;
    }
