use Rattle.std.proofs.Common.{◌≡◌, ◌∙◌, ap, subst, sym}
use Rattle.json.proofs.Found.{Some_inj}
use Rattle.serde_json.specs.Read.{read}
use Rattle.serde_json.specs.View.{view}
use Rattle.cargo_lock_bom.specs.Document.{IsBill}
use Rattle.cargo_lock_bom.specs.Options.{within}
use Rattle.cargo_lock_bom.proofs.document.document.Goals as goal

pub returns-clause-ok : goal.returns-clause-ok
returns-clause-ok c =
    let text = c.in_ok-text.ensures.ok in
    let same : text.bill ≡ view c.in_ok-value.value =
    Some_inj text.bill (view c.in_ok-value.value) (sym text.reads ∙ sym (ap read c.as_str.ensures.value) ∙ c.in_ok-value.ensures.ok) in
    subst (IsBill c.args.graph.now (within c.args.graph.now c.args.options.now)) same text.is
