use Rattle.std.proofs.Common.{◌∙◌, ap, arith, bytes_eq}
use Rattle.cargo_lock_licenses.proofs.Leaves.{only-is}
use Rattle.cargo_lock_licenses.proofs.terms.is_only.Goals as goal

pub returns-in-len1 : goal.returns-in-len1
returns-in-len1 c =
    only-is c.args.terms.now c.args.text.now c.only-item.result c.eq.result (omega (arith, c.in-len1.len_at_least)) (omega (arith, c.in-len1.len_below)) c.only-item.is
    (c.eq.ensures ∙ ap (λ x. bytes_eq x c.args.text.now) c.as_str.ensures.value)
