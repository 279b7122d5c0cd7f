-- Where the packages of a merge lead: what they refer to is what is reached.
use Rattle.std.proofs.Common.{inl, inr, List, [], ◌∷◌, ◌++◌, Some, refl, subst}
use Rattle.std.specs.List.{Contains}
use Rattle.lists.proofs.Searches.{chain-on}
use Rattle.cargo_lock_merge_core.specs.Choices.{IsReplacement}
use Rattle.cargo_lock_merge_core.specs.Laws.{HaveOneAtEach}
use Rattle.cargo_lock_merge_core.specs.LawsOfMerges.{RefersToPlace}
use Rattle.lists.specs.Chains.{IsChain, IsReachedFrom}
use Rattle.cargo_lock_merge_core.specs.Merge.{IsMerge, IsMergedPackage, IsReachedInMerge, IsRootOfMerge, LeadsToInMerge, Triple, lockfiles_of}
use Rattle.cargo_lock_merge_core.specs.Placed.{HasAt, HasOneAtEach, PlacedData}
use Rattle.cargo_lock_merge_core.specs.Places.{Place}
use Rattle.cargo_lock_merge_core.specs.Plans.{IsClosed}
use Rattle.cargo_lock_merge_core.proofs.Alike.{value-once}
use Rattle.cargo_lock_merge_core.proofs.Once.{chosen-once, depends-alike, replacement-alike}
use Rattle.cargo_lock_merge_core.proofs.Sides.{chain-flip}
use Rattle.cargo_lock_merge_core.proofs.Staying.{from-at}

-- a list has a package at the place
abbrev pub IsThere : List (PlacedData Place) → Place → Type 0
IsThere xs p = (x : PlacedData Place) × HasAt xs p x

-- ---- merged packages

module _ (s : Triple Place) (ms : List (PlacedData Place)) (each : (x : PlacedData Place) → Contains ms x → IsMergedPackage s x) where
  -- what a merged package refers to is led to
  pub refers-leads : (p d : Place) → RefersToPlace ms p d → LeadsToInMerge s p d
  refers-leads p d (x, (among, here), refers) =
      let (a, b, t, c, from) = each x among in
      let leads : LeadsToInMerge s x.place d = (
        a,
        b,
        t,
        from.at,
        elim refers [
          | inl depends ↦ inl (inl (c, from.chosen, (from.dependencies d).0 depends))
          | inr is ↦ inr (c, from.chosen, subst (λ (r : _). IsReplacement a b t c r) is from.replacement)
        ],
      ) in
      subst (λ (q : Place). LeadsToInMerge s q d) here leads

  -- and nothing else
  pub leads-refers : HaveOneAtEach s → (p d : Place) → IsThere ms p → LeadsToInMerge s p d → RefersToPlace ms p d
  leads-refers one p d (x, (among, here)) (a, b, t, at, leads) =
      let (c, from) = from-at s one.base one.ours one.theirs p x a b t here at (each x among) in (
        x,
        (among, here),
        elim leads [
          | inl more ↦ elim more [
            | inl k ↦ inl ((from.dependencies d).1 (depends-alike k.0 c (chosen-once (lockfiles_of s) a b t k.0 c k.1 from.chosen) a b t d k.2))
            | inr clash ↦ absurd (clash.0.none c from.chosen)
          ]
          | inr k ↦ inr (value-once _ _ _ x.replacement (Some d) from.replacement
              (replacement-alike k.0 c (chosen-once (lockfiles_of s) a b t k.0 c k.1 from.chosen) a b t (Some d) k.2))
        ],
      )

-- ---- a merge

module _ (s : Triple Place) (m : List (PlacedData Place)) (h : IsMerge s m) where
  pub refers-there : (p d : Place) → RefersToPlace m p d → IsThere m d
  refers-there p d refers =
      let r = (h.holds p).0 (refers.0, refers.1) in
      (h.holds d).1 (r.0, r.1 ++ d ∷ [], r.2, chain-on (LeadsToInMerge s) r.0 r.1 p d r.3 (refers-leads s m h.each p d refers))

  -- each dependency and each replacement has its package
  pub merge-refers : IsClosed m
  merge-refers x d among refers = refers-there x.place d (x, (among, refl), refers)

  chain-own : HaveOneAtEach s → (a : Place) (chain : List Place) (p : Place) → IsThere m a → IsChain (LeadsToInMerge s) a chain p → IsChain (RefersToPlace m) a chain p
  chain-own one a [] p there same = same
  chain-own one a (d ∷ ds) p there leads =
      let refers = leads-refers s m h.each one a d there leads.0 in
      (refers, chain-own one d ds p (refers-there a d refers) leads.1)

  -- its own references lead from a root to each of its places
  pub merge-needed : HaveOneAtEach s → (x : PlacedData Place) → Contains m x → IsReachedFrom (IsRootOfMerge s) (RefersToPlace m) x.place
  merge-needed one x among =
      let r = (h.holds x.place).0 (x, (among, refl)) in
      (r.0, r.1, r.2, chain-own one r.0 r.1 x.place ((h.holds r.0).1 (r.0, [], r.2, refl)) r.3)

-- ---- what is a merge

-- Merged packages that have each root, and all that they refer to, and to which their own
-- references lead from roots.
pub record IsWhole (s : Triple Place) (x : List (PlacedData Place)) : Type 0 where
  pub one : HasOneAtEach x
  pub each : (y : PlacedData Place) → Contains x y → IsMergedPackage s y
  pub closed : IsClosed x
  pub roots : (p : Place) → IsRootOfMerge s p → IsThere x p
  pub needed : (y : PlacedData Place) → Contains x y → IsReachedFrom (IsRootOfMerge s) (RefersToPlace x) y.place

module _ (s : Triple Place) (one : HaveOneAtEach s) (x : List (PlacedData Place)) (w : IsWhole s x) where
  goes-on : (a : Place) (chain : List Place) (p : Place) → IsThere x a → IsChain (LeadsToInMerge s) a chain p → IsThere x p
  goes-on a [] p there same = subst (IsThere x) same there
  goes-on a (d ∷ ds) p there leads =
      let (y, at, refers) = leads-refers s x w.each one a d there leads.0 in
      goes-on d ds p (w.closed y d at.0 refers) leads.1

  is-reached : (p : Place) → IsThere x p → IsReachedInMerge s p
  is-reached p (y, (among, here)) =
      let r = w.needed y among in
      subst (IsReachedInMerge s) here (r.0, r.1, r.2, chain-flip (RefersToPlace x) (LeadsToInMerge s) (refers-leads s x w.each) r.0 r.1 y.place r.3)

  pub whole-merge : IsMerge s x
  whole-merge = record {
    one = w.one;
    holds = λ p. (is-reached p, λ r. goes-on r.0 r.1 p (w.roots r.0 r.2) r.3);
    each = w.each;
  }
