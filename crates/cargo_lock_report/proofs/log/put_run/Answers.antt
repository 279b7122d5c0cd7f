use Rattle.cargo_lock_report.specs.Log.{run_json}
use Rattle.printing.proofs.Behind.{then}
use Rattle.cargo_lock_report.proofs.log.put_run.Goals as goal

pub returns : goal.returns
unfolding run_json
returns c = then c.in_ok-begin_object.ensures (then c.in_ok-key.ensures
    (then c.in_ok-put_tool.ensures (then c.in_ok-key-2.ensures
    (then c.in_ok-write_array.ensures c.end_object.ensures))))
