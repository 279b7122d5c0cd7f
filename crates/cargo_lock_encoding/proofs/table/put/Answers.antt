use Rattle.std.proofs.Common.{ap, ◌∙◌}
use Rattle.toml.specs.View.{members_view, table_view, view}
use Rattle.cargo_lock_encoding.specs.Table.{put}
use Rattle.cargo_lock_encoding.proofs.Puts.{members_view-insert}
use Rattle.cargo_lock_encoding.proofs.table.put.Goals as goal

pub returns : goal.returns
returns c =
    ap members_view c.in_ok-insert.ensures.entries
    ∙ members_view-insert c.args.table.now.entries c.in_ok-key.key c.args.value
    ∙ ap (λ k. put k (view c.args.value) (table_view c.args.table.now)) c.in_ok-key.ensures.ok
