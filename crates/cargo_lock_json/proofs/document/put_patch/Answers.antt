use Rattle.std.proofs.Common.{sym}
use Rattle.cargo_lock_json.specs.Document.{patch_json}
use Rattle.printing.proofs.Behind.{then}
use Rattle.cargo_lock_json.proofs.document.put_patch.Goals as goal

pub returns : goal.returns
unfolding patch_json
returns c = rw (sym c.patch.view_is, sym c.as_slice.ensures.value) (then c.in_ok-key.ensures (then c.in_ok-begin_object.ensures
    (then c.in_ok-key-2.ensures (then c.in_ok-put_dependencies.ensures c.end_object.ensures))))
