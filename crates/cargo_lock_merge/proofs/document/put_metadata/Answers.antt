use Rattle.std.proofs.Common.{◌≡◌, ◌∙◌, ◌++◌, List, ℕ, ap, map, rules, sym}
use Rattle.std.specs.Borrow.{Bor}
use Rattle.std.specs.Map.Iter.{deref_pair}
use Rattle.std.proofs.lemmas.Map.Iter.{iter_end}
use Rattle.std.proofs.lemmas.Simd.{map-map}
use Rattle.cargo_lock_merge.specs.Document.{ConflictData, conflict_of_metadata, item_data}
use Rattle.cargo_lock_merge.specs.declared.metadata.MetadataConflict.{MetadataConflict}
use Rattle.cargo_lock_merge.proofs.Documents.{item-more}
use Rattle.cargo_lock_merge.proofs.document.put_metadata.Goals as goal

pub loop-key-preserved : goal.loop-key-preserved
loop-key-preserved c =
    item-more item_data (λ (e : Bor (List ℕ) × Bor MetadataConflict). conflict_of_metadata e.0.now e.1.now)
    (map item_data c.args.items.now.items) c.loop-key.items.items c.push.new.self.items c.in_ok-item_of_metadata.field-0
    c.loop-key.yielded (c.in-Some.key, c.in-Some.conflict)
    (search rules) c.loop-key.invariant c.in_ok-item_of_metadata.ensures

pub returns : goal.returns
returns c =
    let e : map deref_pair c.loop-key.yielded ≡ c.args.conflicts.now.entries = search (rules, iter_end) in
    let of : List ℕ × MetadataConflict → ConflictData = λ e. conflict_of_metadata e.0 e.1 in
    c.loop-key.invariant ∙ ap (λ l. map item_data c.args.items.now.items ++ l)
    (sym (map-map of deref_pair c.loop-key.yielded) ∙ ap (map of) e)
