use Rattle.std.proofs.Common.{sym}
use Rattle.cargo_lock_json.specs.Package.{listed_package_json}
use Rattle.printing.proofs.Behind.{then}
use Rattle.cargo_lock_json.proofs.package.put_parts.Goals as goal

pub returns : goal.returns
unfolding listed_package_json
returns c = rw (sym c.«package».view_is) (then c.in_ok-begin_identity.ensures (then c.in_ok-put_origin.ensures (then c.in_ok-put_digest_or_null.ensures
    (then c.in_ok-put_dependencies_of.ensures (then c.in_ok-put_unresolved_of.ensures (then c.in_ok-key.ensures
    (then c.in_ok-put_dependency_or_null.ensures c.end_object.ensures)))))))
