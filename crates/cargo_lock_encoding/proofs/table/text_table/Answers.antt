use Rattle.std.proofs.Common.{sym, ap, ◌∙◌}
use Rattle.toml.specs.View.{table_view}
use Rattle.cargo_lock_encoding.proofs.TextPuts.{put_texts, put_texts-sorted}
use Rattle.cargo_lock_encoding.proofs.table.text_table.Goals as goal

pub returns : goal.returns
returns c =
    sym (ap (put_texts (table_view c.loop-key.table)) c.in-None.ensures.steps.0)
    ∙ c.loop-key.invariant.2 ∙ put_texts-sorted c.args.metadata.now.entries c.len-length.ensures.ordered
