use Rattle.cargo_lock_diff.specs.Document.{difference_document}
use Rattle.printing.proofs.Behind.{then}
use Rattle.cargo_lock_diff.proofs.document.DocumentToJson.write_json.Goals as goal

pub returns : goal.returns
unfolding difference_document
returns c = then c.in_ok-begin_object.ensures
    (then c.in_ok-string_member.ensures (then c.in_ok-put_file.ensures
    (then c.in_ok-put_file-2.ensures (then c.in_ok-boolean_member.ensures
    (then c.in_ok-put_counts.ensures (then c.in_ok-key.ensures
    (then c.in_ok-write_array.ensures c.end_object.ensures)))))))
