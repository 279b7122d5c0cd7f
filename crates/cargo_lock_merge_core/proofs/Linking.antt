-- To which packages identities refer.
use Rattle.std.proofs.Common.{◌≡◌, ◌<◌, ◌+◌, inl, inr, ℕ, false, List, MatchOption, Option, Some, None, get_or, length, slice_get, subst, sym, take}
use Rattle.std.specs.Prelude.{is_none}
use Rattle.std.specs.List.{All, AllZip, Contains}
use Rattle.std.proofs.lemmas.Bool.{false≢true}
use Rattle.std.proofs.lemmas.List.{take_more}
use Rattle.std.proofs.lemmas.List.Elements.{All-contains, All-push}
use Rattle.cargo_lock_parts.specs.Identity.{Identity, PackageData}
use Rattle.cargo_lock_graph.specs.Targets.{HasTarget, IsLost, IsTarget, Link, links, links_of}
use Rattle.cargo_lock_graph.proofs.EdgesOnce.{target-one}
use Rattle.cargo_lock_merge_core.specs.Linked.{AreReferredTo, AreStatedOnce, IsResolved, IsStatedAt, RefersTo}
use Rattle.lists.proofs.Members.{got-in, in-joined, in-map, joined-in, map-in}
use Rattle.lists.proofs.Pairs.{all-of}
use Rattle.cargo_lock_merge_core.proofs.Zipping.{zip-left, zip-right}

pub refers-one : (packages : List PackageData) (i : Identity) (j k : ℕ) → AreStatedOnce packages → RefersTo packages i j → RefersTo packages i k → j ≡ k
refers-one packages i j k once (inl a) (inl b) = once i j k a b
refers-one packages i j k once (inl a) (inr b) = absurd (b.0 j a)
refers-one packages i j k once (inr a) (inl b) = absurd (a.0 k b)
refers-one packages i j k once (inr a) (inr b) = target-one packages i j k a.1 b.1

pub refers-within : (packages : List PackageData) (i : Identity) (k : ℕ) → RefersTo packages i k → (q : PackageData) × (slice_get packages k ≡ Some q)
refers-within packages i k (inl h) = (h.0, h.1)
refers-within packages i k (inr h) = (h.1.fits.0, h.1.fits.1)

-- the stated one, or else the one to which it resolves, if there is one
pub either-refers : (packages : List PackageData) (i : Identity) (o : Option ℕ)
    → ((j : ℕ) → ¬ IsStatedAt packages i j) → MatchOption o (IsLost packages i) (IsTarget packages i)
    → MatchOption o (IsLost packages i) (RefersTo packages i)
either-refers packages i None none lost = lost
either-refers packages i (Some k) none target = inr (none, target)

-- a dependency that resolves to a package is not lost
pub resolved-found : (packages : List PackageData) (i : Identity) → IsResolved packages i
    → ¬ IsLost packages i
resolved-found packages i (place, target) lost = lost place target.rank target.fits

abbrev link-of : PackageData → Identity → Link
link-of p i = record { from = p; dependency = i }

-- so does each dependency of a package of the list, if each of all packages does
pub resolved-at : (packages : List PackageData) (at : ℕ) (p : PackageData)
    → slice_get packages at ≡ Some p → All (HasTarget packages) (links packages)
    → All (IsResolved packages) p.dependencies
resolved-at packages at p here all = all-of (IsResolved packages) p.dependencies
    (λ i depends. All-contains (HasTarget packages) (links packages) (link-of p i) all
    (in-joined links_of packages p (link-of p i) (got-in packages at p here)
    (in-map (link-of p) p.dependencies i depends)))

-- the indices to which the dependencies of a package refer, in their order
pub targets-are : (packages : List PackageData) (p : PackageData) (targets : List ℕ)
    → AllZip (RefersTo packages) p.dependencies targets → AreReferredTo packages p targets
targets-are packages p targets zip = record {
  found = λ i depends.
      let (k, there, refers) = zip-left (RefersTo packages) p.dependencies targets i zip depends in
      (k, refers);
  are = λ once k. (
    λ h. zip-right (RefersTo packages) p.dependencies targets k zip h,
    λ h.
        let r = zip-left (RefersTo packages) p.dependencies targets h.0 zip h.1 in
        subst (λ n. Contains targets n) (refers-one packages h.0 r.0 k once r.2 h.2) r.1,
  );
}

-- ---- dependencies that are looked up one by one

-- one more
pub all-more : {X : Type 0} (P : X → Type 0) (xs : List X) (i : ℕ) (x : X) → i < length xs
    → x ≡ get_or xs i x → All P (take i xs) → P x → All P (take (i + 1) xs)
all-more {X} P xs i x low is all one =
    subst (All P) (sym (take_more xs i x low))
    (All-push P (take i xs) (get_or xs i x) all (subst P is one))

-- where something is found, there is what it says
pub found-at : (P : Type 0) (Q : ℕ → Type 0) (o : Option ℕ) → is_none o ≡ false
    → MatchOption o P Q → (k : ℕ) × Q k
found-at P Q None some h = absurd (false≢true (sym some))
found-at P Q (Some k) some h = (k, h)

-- where each dependency of each package resolves, each link has its target
pub links-resolved : (packages ps : List PackageData)
    → All (λ (p : PackageData). All (IsResolved packages) p.dependencies) ps
    → All (HasTarget packages) (links ps)
links-resolved packages ps all = all-of (HasTarget packages) (links ps)
    (λ l among.
    let (p, there, from) = joined-in links_of ps l among in
    let (i, depends, same) = map-in (λ d. link-of p d) p.dependencies l from in
    subst (HasTarget packages) same
    (All-contains (IsResolved packages) p.dependencies i
    (All-contains (λ (q : PackageData). All (IsResolved packages) q.dependencies) ps p all there)
    depends))
