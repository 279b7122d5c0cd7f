use Rattle.printing.proofs.Behind.{then}
use Rattle.cargo_lock_merge.specs.Document.{moved_json}
use Rattle.cargo_lock_merge.proofs.document.MovedToJson.write_json.Goals as goal

pub returns : goal.returns
unfolding moved_json
returns c = then c.in_ok-begin_object.ensures
    (then c.in_ok-displayed_member.ensures (then c.in_ok-put_unchecked.ensures
    (then c.in_ok-put_unchecked-2.ensures (then c.in_ok-put_reference_or_null.ensures
    (then c.in_ok-put_reference_or_null-2.ensures c.end_object.ensures)))))
