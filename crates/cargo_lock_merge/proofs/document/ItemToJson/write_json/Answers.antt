use Rattle.std.proofs.Common.{sym}
use Rattle.printing.proofs.Behind.{then}
use Rattle.cargo_lock_merge.specs.Document.{conflict_json}
use Rattle.cargo_lock_merge.proofs.document.ItemToJson.write_json.Goals as goal

pub returns : goal.returns
unfolding conflict_json
returns c = rw (sym c.as_str.ensures.value) (then c.in_ok-begin_object.ensures
    (then c.in_ok-string_member.ensures (then c.in_ok-string_member-2.ensures
    (then c.in_ok-put_package_or_null.ensures (then c.in_ok-put_package_or_null-2.ensures
    (then c.in_ok-put_package_or_null-3.ensures (then c.in_ok-put_source.ensures
    (then c.in_ok-put_key.ensures c.end_object.ensures))))))))
