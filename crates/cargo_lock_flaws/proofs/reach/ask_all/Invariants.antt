use Rattle.std.proofs.Common.{take}
use Rattle.lists.specs.Chains.{OneLeadsTo}
use Rattle.lists.specs.Reach.{HasReached}
use Rattle.cargo_lock_edges.specs.Best.{IsOneOfBest}
use Rattle.cargo_lock_flaws.specs.Search.{AreGroupsAsked}
use Rattle.cargo_lock_flaws.proofs.reach.ask_all.Given as goal

-- what the dependencies so far stand for is reached
abbrev pub invariant-loop-dependency : goal.invariant-loop-dependency
invariant-loop-dependency l = record {
  reached : HasReached (OneLeadsTo (IsOneOfBest l.groups.packages) (take l.dependency-index l.dependencies))
      l.initial.search l.search;
  asked : AreGroupsAsked l.groups l.search l.asked.groups.items;
}
