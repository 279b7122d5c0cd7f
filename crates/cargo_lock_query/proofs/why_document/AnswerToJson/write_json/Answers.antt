use Rattle.std.proofs.Common.{sym}
use Rattle.cargo_lock_query.specs.WhyDocument.{answer_json}
use Rattle.printing.proofs.Behind.{then}
use Rattle.cargo_lock_query.proofs.why_document.AnswerToJson.write_json.Goals as goal

pub returns : goal.returns
unfolding answer_json
returns c = rw (sym c.package.ensures) (then c.in_ok-begin_object.ensures
    (then c.in_ok-key.ensures (then c.in_ok-put_package.ensures
    (then c.in_ok-put_needed_by.ensures c.end_object.ensures))))
