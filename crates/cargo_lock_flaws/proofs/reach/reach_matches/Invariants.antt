use Rattle.std.proofs.Common.{◌≡◌, take, true}
use Rattle.lists.specs.Chains.{OneLeadsTo}
use Rattle.lists.specs.Reach.{HasReached}
use Rattle.cargo_lock_flaws.specs.Search.{AreReached}
use Rattle.cargo_lock_flaws.proofs.Searching.{IsMatchAt}
use Rattle.cargo_lock_flaws.proofs.reach.reach_matches.Given as goal

-- what matches at the places so far is reached, and all of these places where each matches
abbrev pub invariant-loop-place : goal.invariant-loop-place
invariant-loop-place l = record {
  reached : HasReached (OneLeadsTo (IsMatchAt l.groups.packages l.dependency l.best.rank)
      (take l.place-index l.place-items)) l.initial.search l.search;
  whole : l.is_whole ≡ true → AreReached (take l.place-index l.place-items) l.search;
}
