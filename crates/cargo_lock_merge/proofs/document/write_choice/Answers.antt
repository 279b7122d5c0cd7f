use Rattle.printing.proofs.Behind.{then}
use Rattle.cargo_lock_merge.specs.Document.{choice_json}
use Rattle.cargo_lock_merge.proofs.document.write_choice.Goals as goal

pub returns : goal.returns
unfolding choice_json
returns c = then c.in_ok-begin_object.ensures
    (then c.in_ok-displayed_member.ensures (then c.in_ok-put_name.ensures
    (then c.in_ok-put_version.ensures (then c.in_ok-put_version-2.ensures
    (then c.in_ok-put_version-3.ensures c.end_object.ensures)))))
