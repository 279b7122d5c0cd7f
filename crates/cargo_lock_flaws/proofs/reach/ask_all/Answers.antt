use Rattle.std.proofs.Common.{◌∙◌}
use Rattle.lists.proofs.ReachedPlaces.{each-all, each-next, each-none}
use Rattle.cargo_lock_edges.specs.Best.{IsOneOfBest}
use Rattle.cargo_lock_flaws.proofs.reach.ask_all.Goals as goal

pub loop-dependency-init : goal.loop-dependency-init
loop-dependency-init c = record {
  reached = each-none (IsOneOfBest c.args.groups.now.packages) c.args.dependencies.now
      c.args.search.now;
  asked = c.requires.asked;
}

pub ask-requires : goal.ask-requires
ask-requires c = record {
  count = c.loop-dependency.invariant.reached.count
      ∙ c.requires.count;
  asked = c.loop-dependency.invariant.asked;
}

pub loop-dependency-preserved : goal.loop-dependency-preserved
loop-dependency-preserved c = record {
  reached =
      each-next (IsOneOfBest c.args.groups.now.packages) c.args.dependencies.now
      c.loop-dependency.dependency-index c.dependency-item.result c.args.search.now
      c.loop-dependency.search c.ask.new.search
      c.loop-dependency-test.true c.dependency-item.is c.loop-dependency.invariant.reached
      c.in_ok-ask.ensures.reached;
  asked = c.in_ok-ask.ensures.asked;
}

pub returns-clause-reached : goal.returns-clause-reached
returns-clause-reached c =
    each-all (IsOneOfBest c.args.groups.now.packages) c.args.dependencies.now
    c.loop-dependency.dependency-index c.args.search.now c.loop-dependency.search
    c.loop-dependency-test.false c.loop-dependency.invariant.reached
