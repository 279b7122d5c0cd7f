use Rattle.std.proofs.Common.{◌∙◌, List, subst}
use Rattle.std.proofs.lemmas.Result.{IfOk-weaker}
use Rattle.cargo_lock_parts.specs.Identity.{PackageData}
use Rattle.cargo_lock_merge_core.specs.Lists.{AreNumberedFrom, all_numbered}
use Rattle.cargo_lock_merge_core.proofs.numbered.numbered_list.Goals as goal

pub returns-clause-ok : goal.returns-clause-ok
returns-clause-ok c =
    IfOk-weaker c.numbered_slots.result _ _
    (λ v h. subst (λ (ps : List PackageData). AreNumberedFrom c.args.numbers.now c.args.offset ps (all_numbered v.items)) (c.in_ok-linked.ensures.ok ∙ c.deref-2.ensures.value) h)
    c.numbered_slots.ensures.ok
