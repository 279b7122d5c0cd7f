use Rattle.std.proofs.Common.{◌≡◌, arith, subst}
use Rattle.cargo_lock_edges.specs.Groups.{IsBest}
use Rattle.cargo_lock_flaws.proofs.Asking.{asked-kept}
use Rattle.cargo_lock_flaws.proofs.Searching.{best-of, one-reached, one-within}
use Rattle.cargo_lock_flaws.proofs.reach.ask_best.Goals as goal

pub reach-requires : goal.reach-requires
reach-requires c =
    let is = subst (IsBest c.args.groups.now c.args.dependency.now) c.in-One.is c.requires.best in
    let low = one-within c.args.groups.now.packages c.args.dependency.now c.in-One.place is in
    let count = c.requires.count in
    omega (arith, low, count)

pub ask_group-requires-clause-all : goal.ask_group-requires-clause-all
ask_group-requires-clause-all c =
    let is = subst (IsBest c.args.groups.now c.args.dependency.now) c.in-Many.is c.requires.best in
    is.all

pub returns-in_ok-reach-in-One-clause-reached : goal.returns-in_ok-reach-in-One-clause-reached
returns-in_ok-reach-in-One-clause-reached c =
    let groups = c.args.groups.now in
    let d = c.args.dependency.now in
    one-reached groups.packages d c.in-One.place c.args.search.now c.reach.new.self
    (subst (IsBest groups d) c.in-One.is c.requires.best) c.in_ok-reach-in-One.ensures

pub returns-in_ok-reach-in-One-clause-asked : goal.returns-in_ok-reach-in-One-clause-asked
returns-in_ok-reach-in-One-clause-asked c =
    asked-kept c.args.groups.now (λ k. k ≡ c.in-One.place) c.args.search.now c.reach.new.self
    c.args.asked.now.groups.items c.in_ok-reach-in-One.ensures c.requires.asked

pub returns-in_ok-ask_group-in-Many-clause-reached : goal.returns-in_ok-ask_group-in-Many-clause-reached
returns-in_ok-ask_group-in-Many-clause-reached c =
    let groups = c.args.groups.now in
    let d = c.args.dependency.now in
    best-of groups d c.in-Many.best c.args.search.now c.ask_group.new.search
    (subst (IsBest groups d) c.in-Many.is c.requires.best)
    c.in_ok-ask_group-in-Many.ensures.reached
