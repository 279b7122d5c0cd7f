use Rattle.cargo_lock_diff.specs.Document.{counts_json}
use Rattle.printing.proofs.Behind.{then}
use Rattle.cargo_lock_diff.proofs.document.put_counts.Goals as goal

pub returns : goal.returns
unfolding counts_json
returns c = then c.in_ok-key.ensures (then c.in_ok-begin_object.ensures
    (then c.in_ok-number_member.ensures (then c.in_ok-number_member-2.ensures
    (then c.in_ok-number_member-3.ensures (then c.in_ok-number_member-4.ensures
    (then c.in_ok-number_member-5.ensures (then c.in_ok-number_member-6.ensures
    (then c.in_ok-number_member-7.ensures (then c.in_ok-number_member-8.ensures
    (then c.in_ok-number_member-9.ensures c.end_object.ensures))))))))))
