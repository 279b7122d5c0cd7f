use Rattle.std.proofs.Common.{◌≡◌}
use Rattle.cargo_lock_c.specs.Bills.{IsRepeatedText, IsUnresolvedBill}
use Rattle.cargo_lock_c.specs.Statuses.{status_of}
use Rattle.cargo_lock_c.proofs.BillFaults.{SaysOfBill, no-bill}
use Rattle.cargo_lock_c.proofs.Refusals.{refusal-passed}
use Rattle.cargo_lock_c.proofs.bill.bill.Goals as goal

pub returns-in_err-bill-clause-unresolved : goal.returns-in_err-bill-clause-unresolved
returns-in_err-bill-clause-unresolved c =
    let refusal = c.in_err-bill.field-0.0 in
    let says : SaysOfBill c.args.bytes.now (status_of refusal) = no-bill c.args.bytes.now c.in_ok-lockfile.lockfile refusal c.in_ok-lockfile.ensures.ok c.in_err-bill.ensures.err in
    refusal-passed (λ refusal. status_of refusal ≡ 7 → IsUnresolvedBill c.args.bytes.now) c.from_residual-in_err-bill.result refusal c.from_residual-in_err-bill.ensures.1
    says.unresolved

pub returns-in_err-bill-clause-repeated : goal.returns-in_err-bill-clause-repeated
returns-in_err-bill-clause-repeated c =
    let refusal = c.in_err-bill.field-0.0 in
    let says : SaysOfBill c.args.bytes.now (status_of refusal) = no-bill c.args.bytes.now c.in_ok-lockfile.lockfile refusal c.in_ok-lockfile.ensures.ok c.in_err-bill.ensures.err in
    refusal-passed (λ refusal. status_of refusal ≡ 12 → IsRepeatedText c.args.bytes.now) c.from_residual-in_err-bill.result refusal c.from_residual-in_err-bill.ensures.1
    says.repeated
