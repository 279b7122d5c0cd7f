-- How a search for the packages that the workspace leads to goes on.
use Rattle.std.proofs.Common.{◌≡◌, ◌<◌, ◌↔◌, inl, inr, ℕ, Bool, true, false, List, length, get_or, slice_get, Option, Some, None, refl, sym, is_none, ap, subst, ◌∙◌, arith}
use Rattle.std.specs.List.{Contains}
use Rattle.std.proofs.lemmas.Bool.{cases_Bool}
use Rattle.std.proofs.lemmas.Option.{slice_get-get_or, slice_get_within, same_Some}
use Rattle.cargo_lock_graph.specs.Targets.{IsLost, MatchesAt}
use Rattle.cargo_lock_parts.specs.Identity.{Identity, PackageData}
use Rattle.lists.specs.Chains.{OneLeadsTo}
use Rattle.lists.specs.Marks.{IsMarked}
use Rattle.lists.specs.Places.{IsPlaces}
use Rattle.lists.specs.Reach.{HasReached, ReachData}
use Rattle.lists.proofs.ReachedPlaces.{reached-alike, reached-both, reached-none}
use Rattle.cargo_lock_edges.specs.declared.groups.BestGroup.{BestGroup}
use Rattle.cargo_lock_edges.specs.Groups.{Grouping, IsBestGroup}
use Rattle.cargo_lock_edges.specs.Best.{IsOneOfBest}
use Rattle.cargo_lock_flaws.specs.Reach.{AsksFor, IsOrphan, IsReachedFromWorkspace, IsStart, IsWorkspacePackage, PackageLeadsTo}
use Rattle.cargo_lock_flaws.proofs.PackagePlaces.{fails-there, holds-there}

-- ---- the packages that match best

-- the place itself, if its package matches the dependency with the rank
abbrev pub IsMatchAt : List PackageData → Identity → ℕ → ℕ → ℕ → Type 0
IsMatchAt packages d rank place k = (k ≡ place) × MatchesAt packages d k rank

-- the package at the place matches, and is reached
pub match-reached : (packages : List PackageData) (d : Identity) (rank place : ℕ) (a b : ReachData)
    → MatchesAt packages d place rank → HasReached (λ k. k ≡ place) a b
    → HasReached (IsMatchAt packages d rank place) a b
match-reached packages d rank place a b fits f =
    reached-alike (λ k. k ≡ place) (IsMatchAt packages d rank place) a b
    (λ k same. (same, subst (λ n. MatchesAt packages d n rank) (sym same) fits))
    (λ k h. h.0)
    f

-- it does not match
pub match-passed : (packages : List PackageData) (d : Identity) (rank place : ℕ) (s : ReachData)
    → ¬ MatchesAt packages d place rank → HasReached (IsMatchAt packages d rank place) s s
match-passed packages d rank place s miss = reached-none (IsMatchAt packages d rank place) s
    (λ k h. miss (subst (λ n. MatchesAt packages d n rank) h.0 h.1))

-- each package that matches is at one of the places
pub matches-reached : (packages : List PackageData) (d : Identity) (rank : ℕ) (places : List ℕ)
    (a b : ReachData) → ((k : ℕ) → MatchesAt packages d k rank → Contains places k)
    → HasReached (OneLeadsTo (IsMatchAt packages d rank) places) a b
    → HasReached (λ k. MatchesAt packages d k rank) a b
matches-reached packages d rank places a b all f =
    reached-alike (OneLeadsTo (IsMatchAt packages d rank) places)
    (λ k. MatchesAt packages d k rank) a b
    (λ k h. h.2.1)
    (λ k h. (k, all k h, (refl, h)))
    f

-- what matches with the best rank is what matches best
pub best-of : (groups : Grouping) (d : Identity) (best : BestGroup) (a b : ReachData)
    → IsBestGroup groups d best
    → HasReached (λ k. MatchesAt groups.packages d k best.rank) a b
    → HasReached (IsOneOfBest groups.packages d) a b
best-of groups d best a b is f =
    reached-alike (λ k. MatchesAt groups.packages d k best.rank) (IsOneOfBest groups.packages d) a b
    (λ k h. (best.rank, record { fits = h; least = is.least }))
    (λ k h.
    let (l, there) = is.some in
    let below = h.1.least l best.rank there in
    let above = is.least k h.0 h.1.fits in
    subst (λ n. MatchesAt groups.packages d k n) (omega (arith, below, above)) h.1.fits)
    f

-- one package alone matches best
pub one-reached : (packages : List PackageData) (d : Identity) (place : ℕ) (a b : ReachData)
    → ((k : ℕ) → IsOneOfBest packages d k ↔ (k ≡ place))
    → HasReached (λ k. k ≡ place) a b → HasReached (IsOneOfBest packages d) a b
one-reached packages d place a b is f =
    reached-alike (λ k. k ≡ place) (IsOneOfBest packages d) a b
    (λ k h. (is k).1 h) (λ k h. (is k).0 h) f

pub one-within : (packages : List PackageData) (d : Identity) (place : ℕ)
    → ((k : ℕ) → IsOneOfBest packages d k ↔ (k ≡ place)) → place < length packages
one-within packages d place is =
    let fits = ((is place).1 refl).1.fits in
    slice_get_within packages place fits.0 fits.1

-- no package matches
pub best-none : (packages : List PackageData) (d : Identity) (s : ReachData) → IsLost packages d
    → HasReached (IsOneOfBest packages d) s s
best-none packages d s lost = reached-none (IsOneOfBest packages d) s (λ k h. lost k h.0 h.1.fits)

-- ---- the dependencies of a package, and its replacement

pub asked-alone : (packages : List PackageData) (p : PackageData) (ds : List Identity) (a b : ReachData) → ds ≡ p.dependencies → p.replace ≡ None
    → HasReached (OneLeadsTo (IsOneOfBest packages) ds) a b → HasReached (AsksFor packages p) a b
asked-alone packages p ds a b same none f =
    reached-alike (OneLeadsTo (IsOneOfBest packages) ds) (AsksFor packages p) a b
    (λ k h. (h.0, inl (subst (λ (es : List Identity). Contains es h.0) same h.1), h.2))
    (λ k h. elim h.1 [
      | inl among ↦ (h.0, subst (λ (es : List Identity). Contains es h.0) (sym same) among, h.2)
      | inr replaced ↦ let e : None ≡ Some h.0 = sym none ∙ replaced in absurd (cc e)
    ])
    f

pub asked-both : (packages : List PackageData) (p : PackageData) (ds : List Identity) (r : Identity) (a b c : ReachData) → ds ≡ p.dependencies → p.replace ≡ Some r
    → HasReached (OneLeadsTo (IsOneOfBest packages) ds) a b → HasReached (IsOneOfBest packages r) b c
    → HasReached (AsksFor packages p) a c
asked-both packages p ds r a b c same some f g =
    reached-both (OneLeadsTo (IsOneOfBest packages) ds) (IsOneOfBest packages r) (AsksFor packages p) a b c
    (λ k h. elim h.1 [
      | inl among ↦ inl (h.0, subst (λ (es : List Identity). Contains es h.0) (sym same) among, h.2)
      | inr replaced ↦ inr (subst (λ (e : Identity). IsOneOfBest packages e k) (same_Some h.0 r (sym replaced ∙ some)) h.2)
    ])
    (λ k h. (h.0, inl (subst (λ (es : List Identity). Contains es h.0) same h.1), h.2))
    (λ k h. (r, inr some, h))
    f g

-- ---- the places at which a chain begins

none-of : {X : Type 0} (o : Option X) → is_none o ≡ true → o ≡ None
none-of None h = refl
none-of (Some x) h = cc h

some-of : {X : Type 0} (o : Option X) → is_none o ≡ false → ¬ (o ≡ None)
some-of None h = λ e. cc h
some-of (Some x) h = λ e. cc e

pub workspace-here : (packages : List PackageData) (place : ℕ) (p : PackageData) → place < length packages → p ≡ get_or packages place p → is_none p.source ≡ true
    → IsWorkspacePackage packages place
workspace-here packages place p low is bare = holds-there (λ (q : PackageData). q.source ≡ None) packages place p low is (none-of p.source bare)

pub workspace-not : (packages : List PackageData) (place : ℕ) (p : PackageData) → place < length packages → p ≡ get_or packages place p → is_none p.source ≡ false
    → ¬ IsWorkspacePackage packages place
workspace-not packages place p low is sourced = fails-there (λ (q : PackageData). q.source ≡ None) packages place p low is (some-of p.source sourced)

-- there is no root apart from the packages
pub start-rootless : (packages : List PackageData) (root : Option PackageData) (a b : ReachData) → root ≡ None → HasReached (IsWorkspacePackage packages) a b → HasReached (IsStart packages root) a b
start-rootless packages root a b none f =
    reached-alike (IsWorkspacePackage packages) (IsStart packages root) a b
    (λ k bare. inl bare)
    (λ k start. elim start [
      | inl bare ↦ bare
      | inr led ↦ let e : None ≡ Some led.0 = sym none ∙ led.1 in absurd (cc e)
    ])
    f

-- what the root apart from the packages asks for is reached too
pub start-rooted : (packages : List PackageData) (root : Option PackageData) (p : PackageData) (a b c : ReachData) → root ≡ Some p
    → HasReached (IsWorkspacePackage packages) a b → HasReached (AsksFor packages p) b c → HasReached (IsStart packages root) a c
start-rooted packages root p a b c some f g =
    reached-both (IsWorkspacePackage packages) (AsksFor packages p) (IsStart packages root) a b c
    (λ k start. elim start [
      | inl bare ↦ inl bare
      | inr led ↦ inr (subst (λ (q : PackageData). AsksFor packages q k) (same_Some led.0 p (sym led.1 ∙ some)) led.2)
    ])
    (λ k bare. inl bare)
    (λ k asked. inr (p, some, asked))
    f g

-- what a package asks for is what its place leads to
pub leads-of : (packages : List PackageData) (place : ℕ) (p : PackageData) (a b : ReachData) → slice_get packages place ≡ Some p
    → HasReached (AsksFor packages p) a b → HasReached (PackageLeadsTo packages place) a b
leads-of packages place p a b at f =
    reached-alike (AsksFor packages p) (PackageLeadsTo packages place) a b
    (λ k h. (p, at, h))
    (λ k h. subst (λ (q : PackageData). AsksFor packages q k) (same_Some h.0 p (sym h.1 ∙ at)) h.2)
    f

-- ---- orphans

bare-of : (marks : List Bool) (k : ℕ) → k < length marks → ¬ IsMarked marks k → slice_get marks k ≡ Some false
bare-of marks k low none =
    let at : slice_get marks k ≡ Some (get_or marks k false) = slice_get-get_or marks k false low in
    elim (cases_Bool (get_or marks k false)) [
      | inl set ↦ absurd (none (at ∙ ap Some set))
      | inr bare ↦ at ∙ ap Some bare
    ]

pub orphans-told : (packages : List PackageData) (root : Option PackageData) (marks : List Bool) (places : List ℕ) → length marks ≡ length packages
    → ((k : ℕ) → IsMarked marks k ↔ IsReachedFromWorkspace packages root k) → IsPlaces (λ k. slice_get marks k ≡ Some false) (length marks) places
    → IsPlaces (IsOrphan packages root) (length packages) places
orphans-told packages root marks places count marked are = record {
  ascending = are.ascending;
  listed = λ k. (
    λ h.
        let (low, bare) = (are.listed k).0 h in
        (omega (arith, low, count), λ reached. let e : Some true ≡ Some false = sym ((marked k).1 reached) ∙ bare in cc e),
    λ h.
        let low : k < length marks = let below = h.0 in omega (arith, below, count) in
        (are.listed k).1 (low, bare-of marks k low (λ m. h.1 ((marked k).0 m))),
  );
}
