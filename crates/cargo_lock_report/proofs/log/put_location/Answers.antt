use Rattle.cargo_lock_report.specs.Log.{location_json}
use Rattle.printing.proofs.Behind.{then}
use Rattle.printing.proofs.Drafts.{as_tokens}
use Rattle.cargo_lock_report.proofs.Logs.{location-tokens}
use Rattle.cargo_lock_report.proofs.log.put_location.Goals as goal

pub returns : goal.returns
unfolding location_json
returns c = as_tokens (location-tokens c.args.spot.path.now c.args.spot.line)
    (then c.in_ok-begin_object.ensures (then c.in_ok-key.ensures
    (then c.in_ok-begin_object-2.ensures (then c.in_ok-key-2.ensures
    (then c.in_ok-begin_object-3.ensures (then c.in_ok-displayed_member.ensures
    (then c.in_ok-end_object.ensures (then c.in_ok-put_region.ensures
    (then c.in_ok-end_object-2.ensures c.end_object-3.ensures)))))))))
