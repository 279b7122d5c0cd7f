use Rattle.std.proofs.Common.{Some, ap, option_map}
use Rattle.toml.specs.View.{members_view, view}
use Rattle.cargo_lock_encoding.proofs.Puts.{lockfile-puts}
use Rattle.cargo_lock_encoding.proofs.table.lockfile_members.Goals as goal

pub returns : goal.returns
returns c =
    lockfile-puts (option_map view c.args.metadata) (Some (view c.args.packages)) (option_map view c.args.patch) (option_map view c.args.root) (option_map view c.args.version)
    _ _ _ _ _ _ (ap members_view c.new-table.ensures.empty)
    c.in_ok-put_present.ensures c.in_ok-put.ensures c.in_ok-put_present-2.ensures c.in_ok-put_present-3.ensures c.in_ok-put_present-4.ensures
