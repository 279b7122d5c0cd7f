use Rattle.cargo_lock_display.specs.File.{file_json}
use Rattle.printing.proofs.Behind.{then}
use Rattle.cargo_lock_display.proofs.file.put_file.Goals as goal

pub returns : goal.returns
unfolding file_json
returns c = then c.in_ok-key.ensures (then c.in_ok-begin_object.ensures
    (then c.in_ok-put_path.ensures (then c.in_ok-put_format.ensures c.end_object.ensures)))
