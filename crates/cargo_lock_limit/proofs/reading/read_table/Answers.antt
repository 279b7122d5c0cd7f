use Rattle.std.proofs.lemmas.Result.{IfErr-weaker, IfOk-weaker}
use Rattle.toml.specs.View.{table_view}
use Rattle.cargo_lock_limit.proofs.Meanings.{table-read, table-refused, table-unread}
use Rattle.cargo_lock_limit.proofs.reading.read_table.Goals as goal

pub returns-in-Ok-clause-ok : goal.returns-in-Ok-clause-ok
returns-in-Ok-clause-ok c = IfOk-weaker c.read_values.result _ _ (table-read c.args.limit (table_view c.args.table) c.in-Ok.values c.in-Ok.ensures) c.read_values.ensures.ok

pub returns-in-Ok-clause-err : goal.returns-in-Ok-clause-err
returns-in-Ok-clause-err c = IfErr-weaker c.read_values.result _ _ (table-refused (table_view c.args.table) c.in-Ok.values c.in-Ok.ensures) c.read_values.ensures.err

pub returns-in-Err-clause-err : goal.returns-in-Err-clause-err
returns-in-Err-clause-err c = table-unread (table_view c.args.table) c.in-Err.error c.in-Err.ensures
