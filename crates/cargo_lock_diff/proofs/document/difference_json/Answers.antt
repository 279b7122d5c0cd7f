use Rattle.std.proofs.Common.{sym}
use Rattle.std.proofs.lemmas.Simd.{map-map}
use Rattle.cargo_lock_diff.specs.Change.{change_of}
use Rattle.cargo_lock_diff.specs.Document.{change_json, change_line_in, lined_change_json}
use Rattle.cargo_lock_diff.specs.declared.change.Change.{Change}
use Rattle.cargo_lock_location.proofs.Items.{items-located}
use Rattle.cargo_lock_diff.proofs.document.difference_json.Goals as goal

pub returns : goal.returns
returns c =
    let lines = c.args.lines.now in
    let items = items-located (λ line (x : Change). change_json line (change_of x))
    (λ (x : Change). change_line_in lines (change_of x)) c.in_ok-located.located.items c.args.changes.now c.in_ok-located.ensures in
    rw (map-map (lined_change_json lines) change_of c.args.changes.now, sym items, sym c.of-summary.ensures, sym c.deref.ensures.value) c.difference_document.ensures
