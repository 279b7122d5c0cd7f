use Rattle.printing.proofs.Behind.{then}
use Rattle.cargo_lock_merge.specs.Document.{merge_document}
use Rattle.cargo_lock_merge.proofs.document.DocumentToJson.write_json.Goals as goal

pub returns : goal.returns
unfolding merge_document
returns c = then c.in_ok-begin_object.ensures
    (then c.in_ok-string_member.ensures (then c.in_ok-string_member-2.ensures
    (then c.in_ok-write_text_or_null.ensures (then c.in_ok-key.ensures
    (then c.in_ok-write_array.ensures (then c.in_ok-key-2.ensures
    (then c.in_ok-write_array-2.ensures (then c.in_ok-key-3.ensures
    (then c.in_ok-write_array-3.ensures (then c.in_ok-key-4.ensures
    (then c.in_ok-write_array-4.ensures (then c.in_ok-write_text_or_null-2.ensures
    c.end_object.ensures))))))))))))
