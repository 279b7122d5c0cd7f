use Rattle.std.proofs.lemmas.Result.{IfErr-weaker, IfOk-weaker}
use Rattle.cargo_lock_limit.proofs.Meanings.{text-read, text-refused}
use Rattle.cargo_lock_limit.proofs.reading.read_with_care.Goals as goal

pub returns-in-Ok-clause-ok : goal.returns-in-Ok-clause-ok
returns-in-Ok-clause-ok c = IfOk-weaker c.read_table.result _ _ (text-read c.args.limit c.args.text.now _ c.in-Ok.ensures.ok) c.read_table.ensures.ok

pub returns-in-Ok-clause-err : goal.returns-in-Ok-clause-err
returns-in-Ok-clause-err c = IfErr-weaker c.read_table.result _ _ (text-refused c.args.text.now _ c.in-Ok.ensures.ok) c.read_table.ensures.err
