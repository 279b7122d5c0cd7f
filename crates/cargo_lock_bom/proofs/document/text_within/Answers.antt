use Rattle.std.proofs.Common.{string_bytes}
use Rattle.cargo_lock_bom.proofs.Bills.{bill_text}
use Rattle.cargo_lock_bom.proofs.document.text_within.Goals as goal

pub returns-clause-ok : goal.returns-clause-ok
returns-clause-ok c =
    bill_text c.args.graph.now c.args.options.now c.in_ok-contents.contents c.args.layout (string_bytes c.in_ok-text.text)
    c.in_ok-check_distinct.ensures.ok c.in_ok-contents.ensures c.in_ok-text.ensures
