use Rattle.std.proofs.Common.{Some, ap, ◌∙◌}
use Rattle.std.proofs.lemmas.Result.{IfOk-weaker}
use Rattle.cargo_lock_diff.proofs.Homes.{url-order}
use Rattle.cargo_lock_diff.proofs.home.cmp_urls.Goals as goal

pub returns : goal.returns
returns c = IfOk-weaker c.package_order.result _ _
    (λ order is. is ∙ url-order c.in_ok-one.one c.in_ok-other.other c.args.one.now c.args.other.now c.in_ok-one.ensures.name c.in_ok-other.ensures.name
    c.in_ok-one.ensures.version c.in_ok-other.ensures.version (c.in_ok-one.ensures.source ∙ ap Some c.in_ok-repository.ensures)
    (c.in_ok-other.ensures.source ∙ ap Some c.in_ok-repository-2.ensures))
    c.package_order.ensures
