use Rattle.std.proofs.Common.{sym}
use Rattle.cargo_lock_query.specs.DuplicatesDocument.{group_json, row_json}
use Rattle.cargo_lock_query.specs.Listing.{row_of}
use Rattle.printing.proofs.Arrays.{by_another}
use Rattle.printing.proofs.Behind.{then}
use Rattle.cargo_lock_query.proofs.duplicates_document.RowsToJson.write_json.Goals as goal

pub returns : goal.returns
unfolding group_json
returns c = rw (sym c.as_slice-rows.ensures.value) (then c.in_ok-begin_object.ensures (then c.in_ok-put_name.ensures
    (then c.in_ok-key.ensures (then (by_another row_json row_of _ c.in_ok-write_array.ensures)
    c.end_object.ensures))))
