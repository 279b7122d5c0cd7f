use Rattle.std.proofs.Common.{◌≡◌, ◌∙◌, rules, string_bytes, sym}
use Rattle.cargo_lock_c.specs.Bills.{IsBillOfText}
use Rattle.cargo_lock_c.proofs.HandedOut.{handed-answer}
use Rattle.cargo_lock_c.proofs.bill.cargo_lock_bill.Goals as goal

pub returns-in-Ok-clause-bill : goal.returns-in-Ok-clause-bill
returns-in-Ok-clause-bill c =
    let same : c.as_bytes.result.now ≡ string_bytes c.in-Ok.bill = search rules in
    handed-answer (IsBillOfText c.args.text.now c.args.compact) c.as_bytes.result.now _ _ _ _ _
    (rw same c.in-Ok.ensures.ok) c.hand_out.ensures.handed

pub returns-in-Err-clause-unresolved : goal.returns-in-Err-clause-unresolved
returns-in-Err-clause-unresolved c = λ seven. c.in-Err.ensures.unresolved (sym c.status.ensures ∙ seven)

pub returns-in-Err-clause-repeated : goal.returns-in-Err-clause-repeated
returns-in-Err-clause-repeated c = λ twelve. c.in-Err.ensures.repeated (sym c.status.ensures ∙ twelve)
