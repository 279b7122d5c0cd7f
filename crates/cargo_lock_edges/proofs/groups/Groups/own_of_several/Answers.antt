use Rattle.std.proofs.lemmas.Result.{IfOk-weaker}
use Rattle.cargo_lock_edges.proofs.WordGroups.{words-of-all}
use Rattle.cargo_lock_edges.proofs.groups.Groups.own_of_several.Goals as goal

pub returns-in-Some-clause-ok : goal.returns-in-Some-clause-ok
returns-in-Some-clause-ok c =
    IfOk-weaker c.own_among.result _ _
    (λ found h. words-of-all c.args.self.now c.args.dependency.now c.in-Some.number
    c.places.result.now found c.places.ensures.are c.in-Some.ensures h)
    c.own_among.ensures.ok
