use Rattle.std.proofs.Common.{Some, ap, option_map}
use Rattle.toml.specs.View.{members_view, view}
use Rattle.cargo_lock_encoding.proofs.Puts.{entry-puts}
use Rattle.cargo_lock_encoding.proofs.table.package_members.Goals as goal

pub returns : goal.returns
returns c =
    entry-puts (option_map view c.args.checksum) (option_map view c.args.dependencies) (Some (view c.args.name)) (option_map view c.args.replace) (option_map view c.args.source) (Some (view c.args.version))
    _ _ _ _ _ _ _ (ap members_view c.new-table.ensures.empty)
    c.in_ok-put_present.ensures c.in_ok-put_present-2.ensures c.in_ok-put.ensures c.in_ok-put_present-3.ensures c.in_ok-put_present-4.ensures c.in_ok-put-2.ensures
