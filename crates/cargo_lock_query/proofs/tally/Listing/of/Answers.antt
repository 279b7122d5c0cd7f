use Rattle.std.proofs.Common.{Global, List, Vec, subst}
use Rattle.cargo_lock_query.specs.Tally.{IsGroupOf, group_of_rows}
use Rattle.cargo_lock_query.specs.declared.repeated.Duplicate.{Duplicate}
use Rattle.cargo_lock_query.proofs.Answering.{zip-next}
use Rattle.cargo_lock_query.proofs.tally.Listing.of.Goals as goal

pub loop-group-preserved : goal.loop-group-preserved
loop-group-preserved c =
    let packages = c.args.graph.now.packages in
    let items : Vec Duplicate Global → List Duplicate = λ (g : Vec Duplicate Global). g.items in
    let made = c.in_ok-rows_among.field-0 in
    zip-next (IsGroupOf packages) items group_of_rows c.args.groups.now c.loop-group.group-index c.group-item.result c.loop-group.made.items c.push.new.self.items made
    c.loop-group-test.true c.group-item.is c.loop-group.invariant
    (subst (λ (ds : List Duplicate). IsGroupOf packages ds (group_of_rows made)) c.deref.ensures.value record { rows = c.in_ok-rows_among.ensures.rows; width = c.in_ok-rows_among.ensures.width; versions = c.in_ok-rows_among.ensures.versions })
    c.in_ok-push.ensures.items
