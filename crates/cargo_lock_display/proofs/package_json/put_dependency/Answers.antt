use Rattle.std.proofs.Common.{sym}
use Rattle.cargo_lock_display.specs.PackageJson.{identity_json}
use Rattle.printing.proofs.Behind.{then}
use Rattle.cargo_lock_display.proofs.package_json.put_dependency.Goals as goal

pub returns : goal.returns
unfolding identity_json
returns c = rw (sym c.dependency.view_is) (then c.in_ok-begin_identity.ensures
    (then c.in_ok-put_origin.ensures (then c.in_ok-null_member.ensures c.end_object.ensures)))
