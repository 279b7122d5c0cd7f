use Rattle.std.proofs.Common.{List, arith, subst}
use Rattle.std.specs.List.{AllZip}
use Rattle.std.proofs.lemmas.List.{take_all}
use Rattle.cargo_lock_merge.specs.Referring.{IsReferenceTo}
use Rattle.cargo_lock_graph.proofs.Zipped.{zip-next}
use Rattle.cargo_lock_parts.specs.Identity.{Identity}
use Rattle.cargo_lock_merge.proofs.referring.dependencies.Goals as goal

pub loop-dependency-preserved : goal.loop-dependency-preserved
loop-dependency-preserved c =
    zip-next IsReferenceTo c.args.list.now c.loop-dependency.dependency-index c.dependency-item.result c.loop-dependency.all.items c.push.new.self.items _ c.loop-dependency-test.true c.dependency-item.is c.loop-dependency.invariant c.in_ok-reference.ensures.ok c.in_ok-push.ensures.items

pub returns-clause-ok : goal.returns-clause-ok
returns-clause-ok c =
    let end = c.loop-dependency-test.false in
    subst (λ (xs : List Identity). AllZip IsReferenceTo xs c.loop-dependency.all.items) (take_all c.loop-dependency.dependency-index c.args.list.now (omega (arith, end))) c.loop-dependency.invariant
