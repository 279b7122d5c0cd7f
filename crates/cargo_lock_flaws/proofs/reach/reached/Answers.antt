use Rattle.std.proofs.Common.{◌≡◌, ◌∙◌, Bool, List, Option, Some, ap, length, refl, rules, slice_get, subst, sym}
use Rattle.std.proofs.lemmas.Option.{slice_get_read}
use Rattle.cargo_lock_parts.specs.Identity.{PackageData}
use Rattle.lists.specs.Marks.{IsMarked}
use Rattle.lists.specs.Reach.{HasReached, ReachData, fresh}
use Rattle.lists.proofs.Searches.{search-end, search-long, search-next, search-start, waits-within}
use Rattle.cargo_lock_flaws.specs.Reach.{AsksFor, IsStart, PackageLeadsTo}
use Rattle.cargo_lock_flaws.proofs.Asking.{asked-alike}
use Rattle.cargo_lock_flaws.proofs.Searching.{leads-of}
use Rattle.cargo_lock_flaws.proofs.reach.reached.Goals as goal

pub loop-place-init : goal.loop-place-init
loop-place-init c =
    let packages : List PackageData = c.args.packages.now in record {
      search = search-start (IsStart packages c.args.root.now) (PackageLeadsTo packages) (length packages)
          (fresh (length packages)) c.in_ok-search.search refl c.in_ok-search.ensures.search;
      asked = c.in_ok-search.ensures.asked;
    }

pub bounds-packages-place : goal.bounds-packages-place
bounds-packages-place c =
    let packages : List PackageData = c.args.packages.now in
    waits-within (IsStart packages c.args.root.now) (PackageLeadsTo packages) (length packages)
    c.loop-place.search c.next.new.self c.in-Some.place c.loop-place.invariant.search
    c.in-Some.ensures

pub offset_bounds-packages-place : goal.offset_bounds-packages-place
offset_bounds-packages-place c =
    let packages : List PackageData = c.args.packages.now in
    let low = waits-within (IsStart packages c.args.root.now) (PackageLeadsTo packages)
    (length packages) c.loop-place.search c.next.new.self c.in-Some.place
    c.loop-place.invariant.search c.in-Some.ensures in search (rules, low)

pub follow-requires : goal.follow-requires
follow-requires c = record {
  count = ap (λ (ms : List Bool). length ms) c.in-Some.ensures.0
      ∙ c.loop-place.invariant.search.long
      ∙ ap (λ (ps : List PackageData). length ps) (sym c.requires);
  asked = asked-alike c.args.groups.now c.loop-place.search c.next.new.self
      c.loop-place.asked.groups.items c.in-Some.ensures.0 c.loop-place.invariant.asked;
}

pub loop-place-preserved : goal.loop-place-preserved
loop-place-preserved c =
    let packages : List PackageData = c.args.packages.now in
    let root : Option PackageData = c.args.root.now in
    let place = c.in-Some.place in
    let p : PackageData = c.index-packages-place.result in
    let popped : ReachData = c.next.new.self in
    let low = waits-within (IsStart packages root) (PackageLeadsTo packages) (length packages)
    c.loop-place.search popped place c.loop-place.invariant.search c.in-Some.ensures in
    let at : slice_get packages place ≡ Some p = slice_get_read packages
    (length packages) place p refl low c.index-packages-place.is in
    record {
      search =
          search-next (IsStart packages root) (PackageLeadsTo packages) (length packages)
          c.loop-place.search popped c.follow.new.search place
          c.loop-place.invariant.search c.in-Some.ensures
          (leads-of packages place p popped c.follow.new.search at
          (subst (λ (ps : List PackageData). HasReached (AsksFor ps p) popped c.follow.new.search)
          c.requires c.in_ok-follow.ensures.reached));
      asked = c.in_ok-follow.ensures.asked;
    }

pub returns-clause-count : goal.returns-clause-count
returns-clause-count c =
    let packages : List PackageData = c.args.packages.now in
    ap (λ (ms : List Bool). length ms) c.into_marks.ensures
    ∙ search-long (IsStart packages c.args.root.now) (PackageLeadsTo packages) (length packages)
    c.loop-place.search c.next.new.self c.loop-place.invariant.search c.in_default.ensures

pub returns-clause-marks : goal.returns-clause-marks
returns-clause-marks c = λ k.
    let packages : List PackageData = c.args.packages.now in
    let end = search-end (IsStart packages c.args.root.now) (PackageLeadsTo packages)
    (length packages) c.loop-place.search c.next.new.self c.loop-place.invariant.search
    c.in_default.ensures k in
    let marks = c.into_marks.ensures in (
      λ m. end.0 (subst (λ (ms : List Bool). IsMarked ms k) marks m),
      λ r. subst (λ (ms : List Bool). IsMarked ms k) (sym marks) (end.1 r),
    )
