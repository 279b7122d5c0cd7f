use Rattle.std.proofs.Common.{◌≡◌, ◌∙◌, ap, arith, map, string_bytes, take}
use Rattle.std.proofs.lemmas.List.{take_all}
use Rattle.cargo_lock_bom.specs.Contents.{entry_by}
use Rattle.printing.specs.Json.{extended}
use Rattle.cargo_lock_bom.proofs.Writing.{array_ends, items_so_far, next}
use Rattle.cargo_lock_bom.proofs.dependencies.put_entries.Goals as goal

pub loop-entry-init : goal.loop-entry-init
loop-entry-init c = c.in_ok-begin_array.ensures.is

pub loop-entry-preserved : goal.loop-entry-preserved
loop-entry-preserved c =
    next c.args.out.now (entry_by (map string_bytes c.args.texts.now)) c.args.entries.now c.loop-entry.entry-index c.entry-item.result c.entry-item.result c.loop-entry-test.true c.entry-item.is
    c.loop-entry.invariant c.in_ok-put_entry.ensures

pub returns : goal.returns
returns c =
    let f = (entry_by (map string_bytes c.args.texts.now)) in
    let whole : take c.loop-entry.entry-index c.args.entries.now ≡ c.args.entries.now = take_all _ _ (omega arith) in
    array_ends f c.args.entries.now
    (c.loop-entry.invariant ∙ ap (λ xs. extended c.args.out.now (items_so_far f xs)) whole)
    c.end_array.ensures
