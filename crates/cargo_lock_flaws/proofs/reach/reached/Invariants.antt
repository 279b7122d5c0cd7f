use Rattle.std.proofs.Common.{length}
use Rattle.lists.specs.Reach.{IsSearch, left_count}
use Rattle.cargo_lock_flaws.specs.Reach.{IsStart, PackageLeadsTo}
use Rattle.cargo_lock_flaws.specs.Search.{AreGroupsAsked}
use Rattle.cargo_lock_flaws.proofs.reach.reached.Given as goal

abbrev pub invariant-loop-place : goal.invariant-loop-place
invariant-loop-place l = record {
  search : IsSearch (IsStart l.packages l.root) (PackageLeadsTo l.packages) (length l.packages) l.search;
  asked : AreGroupsAsked l.groups l.search l.asked.groups.items;
}

abbrev pub decreases-loop-place : goal.decreases-loop-place
decreases-loop-place l = left_count l.search
