use Rattle.std.proofs.Common.{◌∙◌, ℕ, List, get_or, subst, sym}
use Rattle.std.specs.List.{Contains}
use Rattle.std.proofs.lemmas.Bool.{false≢true}
use Rattle.lists.proofs.Members.{same-place}
use Rattle.lists.proofs.ReachedPlaces.{each-all, each-next}
use Rattle.cargo_lock_flaws.specs.Search.{AreReached}
use Rattle.cargo_lock_flaws.proofs.Asking.{reached-more, reached-whole}
use Rattle.cargo_lock_flaws.proofs.Searching.{IsMatchAt, match-passed, match-reached, matches-reached}
use Rattle.cargo_lock_flaws.proofs.reach.reach_matches.Goals as goal
use Rattle.cargo_lock_flaws.proofs.reach.reach_matches.Goals.{then-is_match+in_ok-reach, else-is_match}

pub loop-place-preserved : goal.loop-place-preserved
loop-place-preserved c =
    let packages = c.args.groups.now.packages in
    let d = c.args.dependency.now in
    let rank = c.args.best.rank in
    let places = c.places-place-items.result.now in
    let i = c.loop-place.place-index in
    let place = get_or places i 0 in
    let low = c.loop-place-test.true in
    let is = same-place places i place 0 low in
    elim c.if-is_match.branch [
      | then-is_match+in_ok-reach w ↦ rw (w.search-is, w.is_whole-is) record {
        reached =
            each-next (IsMatchAt packages d rank) places i place c.args.search.now
            c.loop-place.search w.reach.new.self low is c.loop-place.invariant.reached
            (match-reached packages d rank place c.loop-place.search w.reach.new.self
            (c.is_match.ensures.0 w.if-is_match.true) w.in_ok-reach.ensures);
        whole = λ e. reached-more places i place c.loop-place.search w.reach.new.self low is
            (c.loop-place.invariant.whole e) w.in_ok-reach.ensures;
      }
      | else-is_match w ↦ rw (w.search-is, w.is_whole-is) record {
        reached =
            each-next (IsMatchAt packages d rank) places i place c.args.search.now
            c.loop-place.search c.loop-place.search low is c.loop-place.invariant.reached
            (match-passed packages d rank place c.loop-place.search
            (λ f. false≢true (sym w.if-is_match.false ∙ c.is_match.ensures.1 f)));
        whole = λ e. absurd (false≢true e);
      }
    ]

pub returns-clause-reached : goal.returns-clause-reached
returns-clause-reached c =
    let packages = c.args.groups.now.packages in
    let d = c.args.dependency.now in
    let rank = c.args.best.rank in
    let places = c.places-place-items.result.now in
    matches-reached packages d rank places c.args.search.now c.loop-place.search
    (λ k f. subst (λ (ks : List ℕ). Contains ks k) (sym c.places-place-items.ensures.are)
    (c.requires.all k f))
    (each-all (IsMatchAt packages d rank) places c.loop-place.place-index c.args.search.now
    c.loop-place.search c.loop-place-test.false c.loop-place.invariant.reached)

pub returns-clause-whole : goal.returns-clause-whole
returns-clause-whole c = λ e.
    subst (λ (ks : List ℕ). AreReached ks c.loop-place.search) c.places-place-items.ensures.are
    (reached-whole c.places-place-items.result.now c.loop-place.place-index c.loop-place.search
    c.loop-place-test.false (c.loop-place.invariant.whole e))
