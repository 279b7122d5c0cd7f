use Rattle.std.proofs.Common.{sym}
use Rattle.cargo_lock_query.specs.DuplicatesDocument.{row_json}
use Rattle.printing.proofs.Behind.{then}
use Rattle.cargo_lock_query.proofs.duplicates_document.RowToJson.write_json.Goals as goal

pub returns : goal.returns
unfolding row_json
returns c = rw (sym c.deref.ensures.value) (then c.in_ok-begin_object.ensures (then c.in_ok-key.ensures
    (then c.in_ok-put_package.ensures (then c.in_ok-key-2.ensures
    (then c.in_ok-put_packages.ensures c.end_object.ensures)))))
