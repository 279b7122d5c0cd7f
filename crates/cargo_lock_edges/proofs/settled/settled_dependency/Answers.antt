use Rattle.std.proofs.Common.{inl, inr}
use Rattle.std.proofs.lemmas.Result.{IfOk-weaker}
use Rattle.cargo_lock_edges.proofs.LeadPlaces.{lead-within}
use Rattle.cargo_lock_edges.proofs.settled.settled_dependency.Goals as goal

pub package-requires : goal.package-requires
package-requires c = lead-within c.args.groups.now.packages c.args.dependency.now c.in-Some.place
    c.in-Some.ensures

pub returns-in-Some-clause-ok : goal.returns-in-Some-clause-ok
returns-in-Some-clause-ok c =
    IfOk-weaker c.of.result _ _
    (λ v h. inl record {
      place = c.in-Some.place;
      leads = c.in-Some.ensures;
      is = (c.«package».result.now, c.«package».ensures, h);
    })
    c.of.ensures.ok

pub returns-in_ok-clone-in-None-clause-ok : goal.returns-in_ok-clone-in-None-clause-ok
returns-in_ok-clone-in-None-clause-ok c = inr (c.in-None.ensures, c.in_ok-clone-in-None.ensures.cases)
