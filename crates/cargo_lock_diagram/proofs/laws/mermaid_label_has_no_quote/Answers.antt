use Rattle.cargo_lock_diagram.proofs.Quoting.{mermaid-no-quote}
use Rattle.cargo_lock_diagram.proofs.laws.mermaid_label_has_no_quote.Goals as goal

pub returns : goal.returns
returns c = mermaid-no-quote
