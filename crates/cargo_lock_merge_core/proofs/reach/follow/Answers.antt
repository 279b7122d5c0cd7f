use Rattle.std.proofs.Common.{◌≡◌, ℕ, List, Some, get_or, slice_get}
use Rattle.lists.proofs.Members.{same-place}
use Rattle.lists.proofs.ReachedPlaces.{each-all, each-next, each-none}
use Rattle.cargo_lock_merge_core.proofs.Indexing.{place-passed, place-reached}
use Rattle.cargo_lock_merge_core.proofs.reach.follow.Goals as goal
use Rattle.cargo_lock_merge_core.proofs.reach.follow.Goals.{in-Some+in_ok-reach, in_default}

pub loop-target-init : goal.loop-target-init
loop-target-init c = each-none (λ d k. slice_get c.args.places.now k ≡ Some d) c.args.targets.now c.args.search.now

pub loop-target-preserved : goal.loop-target-preserved
loop-target-preserved c =
    let places : List ℕ = c.args.places.now in
    let ds : List ℕ = c.args.targets.now in
    let i = c.loop-target.target-index in
    let d : ℕ = get_or ds i 0 in
    let low = c.loop-target-test.true in
    let is = same-place ds i d 0 low in
    elim c.match-index_of.branch [
      | in-Some+in_ok-reach w ↦ rw w.search-is
          (each-next (λ e k. slice_get places k ≡ Some e) ds i d c.args.search.now c.loop-target.search w.reach.new.self low is c.loop-target.invariant
          (place-reached places d w.in-Some.at c.loop-target.search w.reach.new.self c.requires.ascending w.in-Some.ensures w.in_ok-reach.ensures))
      | in_default w ↦ rw w.search-is
          (each-next (λ e k. slice_get places k ≡ Some e) ds i d c.args.search.now c.loop-target.search c.loop-target.search low is c.loop-target.invariant
          (place-passed places d c.loop-target.search w.in_default.ensures))
    ]

pub returns : goal.returns
returns c =
    each-all (λ d k. slice_get c.args.places.now k ≡ Some d) c.args.targets.now c.loop-target.target-index c.args.search.now c.loop-target.search
    c.loop-target-test.false c.loop-target.invariant
