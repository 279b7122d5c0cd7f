use Rattle.std.proofs.Common.{◌∙◌, List, ap, false, length, subst, sym}
use Rattle.std.proofs.lemmas.List.{length-replicate}
use Rattle.cargo_lock_parts.specs.Identity.{PackageData}
use Rattle.lists.specs.Reach.{HasReached, ReachData, fresh}
use Rattle.cargo_lock_flaws.specs.Reach.{AsksFor}
use Rattle.cargo_lock_flaws.proofs.Asking.{asked-none}
use Rattle.cargo_lock_flaws.proofs.Searching.{start-rooted, start-rootless}
use Rattle.cargo_lock_flaws.proofs.reach.begin.Goals as goal
use Rattle.cargo_lock_flaws.proofs.reach.begin.Goals.{in-Some+in_ok-follow, in_default}

pub returns-clause-search : goal.returns-clause-search
returns-clause-search c =
    let packages : List PackageData = c.args.packages.now in
    let start : ReachData = fresh (length packages) in
    elim c.match-root.branch [
      | in-Some+in_ok-follow w ↦ rw w.search-is
          (start-rooted packages c.args.root.now w.in-Some.root start c.in_ok-search.search
          w.follow.new.search w.in-Some.is c.in_ok-search.ensures
          (subst (λ (ps : List PackageData). HasReached
          (AsksFor ps w.in-Some.root) c.in_ok-search.search w.follow.new.search)
          c.requires.packages w.in_ok-follow.ensures.reached))
      | in_default w ↦ rw w.search-is
          (start-rootless packages c.args.root.now start c.in_ok-search.search
          w.in_default.is c.in_ok-search.ensures)
    ]

pub follow-requires-clause-count : goal.follow-requires-clause-count
follow-requires-clause-count c =
    let packages : List PackageData = c.args.packages.now in
    c.in_ok-search.ensures.count ∙ length-replicate (length packages) false
    ∙ ap (λ (ps : List PackageData). length ps) (sym c.requires.packages)

pub follow-requires-clause-asked : goal.follow-requires-clause-asked
follow-requires-clause-asked c = asked-none c.args.groups.now c.in_ok-search.search
    c.args.asked.now.groups.items c.requires.none

pub returns-clause-asked : goal.returns-clause-asked
returns-clause-asked c =
    elim c.match-root.branch [
      | in-Some+in_ok-follow w ↦ rw (w.search-is, w.asked-is)
          w.in_ok-follow.ensures.asked
      | in_default w ↦ rw (w.search-is, w.asked-is) (asked-none c.args.groups.now
          c.in_ok-search.search c.args.asked.now.groups.items c.requires.none)
    ]
