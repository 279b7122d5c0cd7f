use Rattle.std.proofs.Common.{◌≡◌, ◌∙◌, List, ap, arith, false, is_some, length, not, subst, sym}
use Rattle.std.proofs.lemmas.List.{length-replicate}
use Rattle.std.proofs.lemmas.Option.{slice_get_within}
use Rattle.cargo_lock_parts.specs.Identity.{PackageData}
use Rattle.lists.specs.Reach.{HasReached, ReachData, fresh}
use Rattle.lists.proofs.ReachedPlaces.{HoldsBelow, below-all, below-next, below-none, below-pass}
use Rattle.cargo_lock_flaws.specs.Reach.{IsWorkspacePackage}
use Rattle.cargo_lock_flaws.proofs.Searching.{workspace-here, workspace-not}
use Rattle.cargo_lock_flaws.proofs.reach.from_workspace.Goals as goal
use Rattle.cargo_lock_flaws.proofs.reach.from_workspace.Goals.{then-is_none+in_ok-reach, else-is_none}

pub loop-place-init : goal.loop-place-init
loop-place-init c =
    let packages : List PackageData = c.args.packages.now in
    subst (λ (s : ReachData). HasReached (HoldsBelow (IsWorkspacePackage packages) 0) (fresh (length packages)) s)
    (sym c.in_ok-search.ensures) (below-none (IsWorkspacePackage packages) (fresh (length packages)))

pub reach-requires : goal.reach-requires
reach-requires c =
    let low = c.loop-place-test.true in
    let count = c.loop-place.invariant.count in
    let long = length-replicate (length c.args.packages.now) false in
    omega (arith, low, count, long)

pub loop-place-preserved : goal.loop-place-preserved
loop-place-preserved c =
    let packages : List PackageData = c.args.packages.now in
    let p : PackageData = c.index-packages-place.result in
    let place = c.loop-place.place in
    let start : ReachData = fresh (length packages) in
    let source : is_some c.«package».inside.source ≡ is_some p.source = ap
    (λ (q : PackageData). is_some q.source) c.«package».view_is in
    let low = c.loop-place-test.true in
    let is = c.index-packages-place.is in
    elim c.if-is_none.branch [
      | then-is_none+in_ok-reach w ↦ rw w.search-is
          (below-next (IsWorkspacePackage packages) place start c.loop-place.search w.reach.new.self
          (workspace-here packages place p low is
          (ap not (sym source ∙ c.is_none.ensures ∙ ap not w.if-is_none.true)))
          c.loop-place.invariant w.in_ok-reach.ensures)
      | else-is_none w ↦ rw w.search-is
          (below-pass (IsWorkspacePackage packages) place start c.loop-place.search
          (workspace-not packages place p low is (ap not (sym source ∙ w.if-is_none.ensures)))
          c.loop-place.invariant)
    ]

pub returns : goal.returns
returns c =
    let packages : List PackageData = c.args.packages.now in
    let past = c.loop-place-test.false in
    below-all (IsWorkspacePackage packages) c.loop-place.place (fresh (length packages)) c.loop-place.search
    (λ k h. let low = slice_get_within packages k h.0 h.1 in omega (arith, low, past))
    c.loop-place.invariant
