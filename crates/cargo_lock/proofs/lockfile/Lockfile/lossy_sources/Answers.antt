use Rattle.std.proofs.Common.{◌∙◌, sym}
use Rattle.std.proofs.lemmas.Bool.{false≢true}
use Rattle.toml.specs.View.{table_view}
use Rattle.cargo_lock.proofs.EachOnce.{lossy-none, lossy-told}
use Rattle.cargo_lock.proofs.lockfile.Lockfile.lossy_sources.Goals as goal

pub returns-in_ok-sources-in-Ok-clause-ok : goal.returns-in_ok-sources-in-Ok-clause-ok
returns-in_ok-sources-in-Ok-clause-ok c =
    lossy-told c.args.text.now (table_view c.in-Ok.table) _ _ c.in-Ok.ensures.ok c.in_ok-sources-in-Ok.ensures.ok c.each_once.ensures

pub returns-in-Err-2-clause-ok : goal.returns-in-Err-2-clause-ok
returns-in-Err-2-clause-ok c =
    lossy-none c.args.text.now c.new.result.items
    (c.in-Err.ensures.refused (λ memory. false≢true (sym c.if-is_memory.false ∙ c.is_memory.ensures.1 memory))) c.new.ensures.items
