use Rattle.std.proofs.Common.{◌∙◌, ◌++◌, [], ◌∷◌, List, All, ap, get_or, map, subst, sym}
use Rattle.std.proofs.lemmas.List.{take_more}
use Rattle.std.proofs.lemmas.List.Elements.{All-push}
use Rattle.cargo_lock_merge_core.specs.declared.entry.Entry.{Entry}
use Rattle.cargo_lock_merge_core.specs.declared.rows.Row.{Row}
use Rattle.cargo_lock_merge_core.specs.Entries.{IsMergeEntry}
use Rattle.cargo_lock_merge_core.proofs.Planning.{map-push}
use Rattle.cargo_lock_merge_core.proofs.plan.entries_of.Goals as goal

pub loop-row-preserved : goal.loop-row-preserved
loop-row-preserved c =
    let rows : List Row = c.args.rows.now in
    let i = c.loop-row.row-index in
    let l = c.loop-row in
    let e : Entry = c.in_ok-entry.entry in
    let r : Row = c.row-item.result in
    record {
      rows = ap (map (λ (e : Entry). e.row)) c.in_ok-push.ensures.items ∙ map-push (λ (e : Entry). e.row) l.all.items e
          ∙ ap (λ (x : Row). map (λ (e : Entry). e.row) l.all.items ++ x ∷ []) (c.in_ok-entry.ensures.row ∙ c.row-item.is)
          ∙ ap (λ (xs : List Row). xs ++ get_or rows i r ∷ []) l.invariant.rows ∙ sym (take_more rows i r c.loop-row-test.true);
      each = subst (All (IsMergeEntry c.args.commits.now)) (sym c.in_ok-push.ensures.items) (All-push (IsMergeEntry c.args.commits.now) l.all.items e l.invariant.each c.in_ok-entry.ensures.ok);
    }
