-- No dependency is twice in a merged package.
use Rattle.std.proofs.Common.{◌≡◌, ◌≢◌, ◌∙◌, ◌<◌, ◌+◌, ◌++◌, inl, inr, ℕ, zero, All, List, [], ◌∷◌, Option, Some, None, ap, arith, get_or, length, option_map, refl, subst, sym}
use Rattle.std.specs.List.{AllPairs, AllZip}
use Rattle.std.specs.List.Sorted.{IsPermutation, IsStrictlyIncreasing}
use Rattle.std.proofs.lemmas.List.Elements.{All-cons, All-tail}
use Rattle.std.proofs.lemmas.List.Kept.{AllPairs-from_increasing}
use Rattle.std.proofs.lemmas.Slice.Zip.{AllZip-long}
use Rattle.cargo_lock.specs.CargoChecksums.{unpinned}
use Rattle.cargo_lock_parts.specs.Identity.{Identity, PackageData, identity_of}
use Rattle.cargo_lock_parts.specs.Source.{Source}
use Rattle.cargo_lock_merge_core.specs.Assembled.{AreSides, IsIdentityAt}
use Rattle.cargo_lock_edges.specs.Nearest.{key_without_commit}
use Rattle.cargo_lock_merge_core.specs.Commits.{Lockfiles}
use Rattle.cargo_lock_merge_core.specs.Lists.{place_at}
use Rattle.cargo_lock_merge_core.specs.Merge.{IsMerge, Triple}
use Rattle.cargo_lock_merge_core.specs.Placed.{HasAt, PlacedData}
use Rattle.cargo_lock_merge_core.specs.Places.{Place, merge_place}
use Rattle.cargo_lock_merge_core.proofs.Assembling.{merged-place}
use Rattle.cargo_lock_merge_core.proofs.ByPlaces.{merged-number}
use Rattle.cargo_lock_merge_core.proofs.Kept.{AreKept, kept-pass, kept-push, kept-start}
use Rattle.cargo_lock_merge_core.proofs.Permuting.{pairs-permuted}
use Rattle.cargo_lock_merge_core.proofs.Slotting.{numbers-one, place-stated}
use Rattle.cargo_lock_graph.proofs.Zipped.{zip-push}
use Rattle.cargo_lock_merge.specs.Once.{AreApart, DependsApart, HasEachOnce, ReferToOne}
use Rattle.cargo_lock_merge.specs.Referring.{IsReferenceTo, IsReferring}
use Rattle.cargo_lock_merge.proofs.Assembling.{zip-get, zip-permuted}

-- ---- as the program finds them

-- a merged package is at the number
abbrev pub HasSome : List (PlacedData ℕ) → ℕ → Type 0
HasSome m n = (y : PlacedData ℕ) × HasAt m n y

-- the identities so far are those at the numbers so far at which packages are
abbrev pub AreSoFar : List (PlacedData ℕ) → List ℕ → ℕ → List Identity → Type 0
AreSoFar m at k is = (ns : List ℕ) × AreKept (HasSome m) at k ns × AllZip (IsIdentityAt m) ns is

-- none before the first
pub none-so-far : (m : List (PlacedData ℕ)) (at : List ℕ) → AreSoFar m at 0 []
none-so-far m at = ([], kept-start (HasSome m) at, tt)

-- one more number, at which a package is
pub more-so-far : (m : List (PlacedData ℕ)) (at : List ℕ) (k : ℕ) (old new : List Identity) (d : Identity) → IsStrictlyIncreasing at → k < length at → AreSoFar m at k old → IsIdentityAt m (get_or at k 0) d
    → new ≡ old ++ d ∷ [] → AreSoFar m at (k + 1) new
more-so-far m at k old new d up low (ns, kept, zip) found grows = (
  ns ++ get_or at k 0 ∷ [],
  kept-push (HasSome m) at k ns kept up low (found.0, found.1),
  subst (AllZip (IsIdentityAt m) (ns ++ get_or at k 0 ∷ [])) (sym grows) (zip-push (IsIdentityAt m) ns old (get_or at k 0) d zip found),
)

-- and one at which none is
pub passed-so-far : (m : List (PlacedData ℕ)) (at : List ℕ) (k : ℕ) (old new : List Identity) → IsStrictlyIncreasing at → k < length at → AreSoFar m at k old → ((y : PlacedData ℕ) → ¬ HasAt m (get_or at k 0) y)
    → new ≡ old → AreSoFar m at (k + 1) new
passed-so-far m at k old new up low (ns, kept, zip) none same =
    (ns, kept-pass (HasSome m) at k ns kept up low (λ h. none h.0 h.1), subst (AllZip (IsIdentityAt m) ns) (sym same) zip)

ascending-apart : (ns : List ℕ) → IsStrictlyIncreasing ns → AllPairs (λ a b. a ≢ b) ns
ascending-apart ns up i j d less low e =
    let lt = AllPairs-from_increasing ns up i j d less low in
    omega (arith, lt, e)

-- at the end they are apart, in any order
pub apart-at-end : (m : List (PlacedData ℕ)) (at : List ℕ) (k : ℕ) (old new : List Identity) → AreSoFar m at k old → IsPermutation old new → AreApart m new
apart-at-end m at k old new (ns, kept, zip) moved =
    let (ws, perm, zip') = zip-permuted (IsIdentityAt m) ns old new zip moved in
    (ws, pairs-permuted (λ a b. a ≢ b) (λ a b apart e. apart (sym e)) ns ws perm (ascending-apart ns kept.ascending), zip')

-- ---- in a merge

module _ (all : Lockfiles) (places : List Place) (s : Triple ℕ) (are : AreSides all places s) (m : List (PlacedData ℕ)) (merge : IsMerge s m) where
  one-number : (y w : PlacedData ℕ) (i j : Identity) (a b : ℕ) → HasAt m a y → HasAt m b w → i ≡ identity_of y.content → j ≡ identity_of w.content → ReferToOne i j → a ≡ b
  one-number y w i j a b at at' is is' same =
      let py : place_at places y.place ≡ merge_place all y.content = merged-place all places s are m merge y y.content at.0 refl in
      let pw : place_at places w.place ≡ merge_place all w.content = merged-place all places s are m merge w w.content at'.0 refl in
      let named = place-stated all y.content w.content
      (ap (λ (k : Identity). k.name) (sym is) ∙ same.name ∙ ap (λ (k : Identity). k.name) is')
      (ap (λ (k : Identity). k.version) (sym is) ∙ same.version ∙ ap (λ (k : Identity). k.version) is')
      (ap (λ (k : Identity). option_map key_without_commit k.source) (sym is) ∙ same.source ∙ ap (λ (k : Identity). option_map key_without_commit k.source) is') in
      let e = numbers-one places y.place w.place (merged-number all places s are m merge y at.0) (merged-number all places s are m merge w at'.0) (py ∙ named ∙ sym pw) in
      sym at.1 ∙ e ∙ at'.1

  pub each-once : (p : PackageData) → DependsApart m p → HasEachOnce p
  each-once p (ns, apart, zip) i j d less low same =
      let long = AllZip-long (IsIdentityAt m) ns p.dependencies zip in
      let before : i < length p.dependencies = omega (arith, low, less) in
      let (y, at, is) = zip-get (IsIdentityAt m) ns p.dependencies i 0 d zip before in
      let (w, at', is') = zip-get (IsIdentityAt m) ns p.dependencies j 0 d zip low in
      apart i j 0 less (omega (arith, low, long)) (one-number y w _ _ (get_or ns i 0) (get_or ns j 0) at at' is is' same)

  pub all-once : (ps : List PackageData) → All (DependsApart m) ps → All HasEachOnce ps
  all-once ps apart k d low = each-once (get_or ps k d) (apart k d low)

-- ---- with commits or without

source-unpinned : (o : Option Source) → option_map key_without_commit (option_map unpinned o) ≡ option_map key_without_commit o
source-unpinned None = refl
source-unpinned (Some s) = refl

refers-same : (d e : Identity) → IsReferenceTo d e → ReferToOne d e
refers-same d e (inl same) = record {
  name = ap (λ (i : Identity). i.name) (sym same);
  version = ap (λ (i : Identity). i.version) (sym same);
  source = ap (λ (i : Identity). option_map key_without_commit i.source) (sym same);
}
refers-same d e (inr same) = record {
  name = ap (λ (i : Identity). i.name) (sym same);
  version = ap (λ (i : Identity). i.version) (sym same);
  source = sym (source-unpinned d.source) ∙ ap (λ (i : Identity). option_map key_without_commit i.source) (sym same);
}

one-through : (a b d e : Identity) → ReferToOne a d → ReferToOne b e → ReferToOne d e → ReferToOne a b
one-through a b d e x y z = record {
  name = x.name ∙ z.name ∙ sym y.name;
  version = x.version ∙ z.version ∙ sym y.version;
  source = x.source ∙ z.source ∙ sym y.source;
}

once-beside : (ds es : List Identity) → AllZip IsReferenceTo ds es → AllPairs (λ i j. ¬ ReferToOne i j) ds → AllPairs (λ i j. ¬ ReferToOne i j) es
once-beside ds es zip once i j d less low same =
    let long = AllZip-long IsReferenceTo ds es zip in
    let first = zip-get IsReferenceTo ds es i d d zip (omega (arith, low, less)) in
    let second = zip-get IsReferenceTo ds es j d d zip low in
    once i j d less (omega (arith, low, long)) (one-through _ _ _ _ (refers-same _ _ first) (refers-same _ _ second) same)

pub referring-once : (ps qs : List PackageData) → AllZip IsReferring ps qs → All HasEachOnce ps → All HasEachOnce qs
referring-once [] [] zip all = λ k d low. absurd (omega (arith, low))
referring-once [] (q ∷ qs) zip all = absurd zip
referring-once (p ∷ ps) [] zip all = absurd zip
referring-once (p ∷ ps) (q ∷ qs) zip all =
    All-cons HasEachOnce q qs (once-beside p.dependencies q.dependencies zip.0.dependencies (all zero p (omega arith)))
    (referring-once ps qs zip.1 (All-tail HasEachOnce p ps all))
