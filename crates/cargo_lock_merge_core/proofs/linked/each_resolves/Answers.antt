use Rattle.std.proofs.Common.{List, ap, not, subst, ◌∙◌}
use Rattle.std.specs.List.{All}
use Rattle.std.proofs.lemmas.Bool.{false≢true}
use Rattle.std.proofs.lemmas.List.{take_all}
use Rattle.cargo_lock_parts.specs.Identity.{Identity}
use Rattle.cargo_lock_merge_core.specs.Linked.{IsResolved}
use Rattle.cargo_lock_merge_core.proofs.Linking.{all-more, found-at}
use Rattle.cargo_lock_merge_core.proofs.linked.each_resolves.Goals as goal

pub returns-then-is_none : goal.returns-then-is_none
returns-then-is_none c = λ yes. absurd (false≢true yes)

pub loop-dependency-preserved : goal.loop-dependency-preserved
loop-dependency-preserved c =
    all-more (IsResolved c.args.groups.now.packages) c.args.dependencies.now
    c.loop-dependency.dependency-index c.dependency-item.result c.loop-dependency-test.true
    c.dependency-item.is c.loop-dependency.invariant
    (found-at _ _ c.target.result (ap not (c.is_none.ensures ∙ ap not c.if-is_none.false)) c.target.ensures)

pub returns : goal.returns
returns c = λ yes.
    let packages = c.args.groups.now.packages in
    subst (λ (ds : List Identity). All (IsResolved packages) ds)
    (take_all c.loop-dependency.dependency-index c.args.dependencies.now
    c.loop-dependency-test.false)
    c.loop-dependency.invariant
