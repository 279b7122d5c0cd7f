use Rattle.std.proofs.Common.{Some, ap, option_map}
use Rattle.toml.specs.View.{members_view, view}
use Rattle.cargo_lock_encoding.proofs.Puts.{patch-puts}
use Rattle.cargo_lock_encoding.proofs.table.patch_members.Goals as goal

pub returns : goal.returns
returns c =
    patch-puts (Some (view c.args.name)) (option_map view c.args.source) (Some (view c.args.version))
    _ _ _ _ (ap members_view c.new-table.ensures.empty)
    c.in_ok-put.ensures c.in_ok-put_present.ensures c.in_ok-put-2.ensures
