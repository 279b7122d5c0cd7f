-- Lists side by side that are in order together.
use Rattle.std.proofs.Common.{◌≡◌, ◌∙◌, ◌<◌, ◌+◌, ◌∷◌, inl, inr, zero, All, List, [], Option, Some, None, ap, arith, length, map, option_map, refl, sym}
use Rattle.std.specs.List.{AllZip}
use Rattle.std.specs.List.Sorted.{IsSorted}
use Rattle.std.specs.Option.{option_cmp}
use Rattle.std.specs.Ordering.{is_lt, ordering_then}
use Rattle.std.specs.declared.cmp.Ordering.{Ordering}
use Rattle.std.proofs.lemmas.List.{get_or_default}
use Rattle.std.proofs.lemmas.List.Elements.{All-cons, All-tail}
use Rattle.std.proofs.lemmas.Slice.Zip.{AllZip-long}
use Rattle.semver.specs.Identifiers.{parts_text}
use Rattle.url.specs.Parts.{serialize}
use Rattle.cargo_lock_parts.specs.Identity.{Identity, PackageData, identity_of}
use Rattle.cargo_lock_parts.specs.Source.{Source}
use Rattle.cargo_lock_parts.specs.SourceKey.{text_cmp}
use Rattle.cargo_lock.specs.CargoChecksums.{unpinned}
use Rattle.cargo_lock_order.specs.Order.{by_kind_and_url, dependency_order, package_order}
use Rattle.cargo_lock_merge.specs.declared.moved.Moved.{Moved}
use Rattle.cargo_lock_merge.specs.declared.moved.Named.{Named}
use Rattle.cargo_lock_merge_core.specs.declared.moved.Moved as merging
use Rattle.cargo_lock_merge.specs.Moved.{AreMarkedMoved, AreNamedMoved}
use Rattle.cargo_lock_merge.specs.Order.{AreInCargoOrder, HasSortedDependencies, moved_order, named_order, patch_order}
use Rattle.cargo_lock_merge.specs.Referring.{IsReferenceTo, IsReferring, unpinned_identity}
use Rattle.cargo_lock_merge.proofs.Assembling.{zip-get}

module _ {X Y : Type 0} (R : X → Y → Type 0) (C : X → X → Ordering) (D : Y → Y → Ordering)
    (alike : (a b : X) (p q : Y) → R a p → R b q → C a b ≡ D p q) where
  -- where what is side by side compares alike, both lists are in order
  pub sorted-beside : (xs : List X) (ys : List Y) → AllZip R xs ys → IsSorted C xs → IsSorted D ys
  sorted-beside [] [] zip sorted k d low high = absurd (omega (arith, high))
  sorted-beside [] (y ∷ ys) zip sorted k d low high = absurd zip
  sorted-beside (x ∷ xs) [] zip sorted k d low high = absurd zip
  sorted-beside (x ∷ xs) (y ∷ ys) zip sorted k d low high =
      let long = AllZip-long R (x ∷ xs) (y ∷ ys) zip in
      let here : k < length (y ∷ ys) = omega (arith, high) in
      let later = zip-get R (x ∷ xs) (y ∷ ys) (k + 1) x y zip high in
      let earlier = zip-get R (x ∷ xs) (y ∷ ys) k x y zip here in
      let same = alike _ _ _ _ later earlier in
      let last = get_or_default (y ∷ ys) (k + 1) y d high in
      let first = get_or_default (y ∷ ys) k y d here in
      ap is_lt (sym (λ i. D (last i) (first i))) ∙ (ap is_lt (sym same) ∙ sorted k x low (omega (arith, high, long)))

-- ---- references with their commits or without

sources-alike : (x y : Option Source) → option_cmp (by_kind_and_url serialize) x y ≡ option_cmp (by_kind_and_url serialize) (option_map unpinned x) (option_map unpinned y)
sources-alike None None = refl
sources-alike None (Some t) = refl
sources-alike (Some s) None = refl
sources-alike (Some s) (Some t) = refl

unpinned-alike : (a b : Identity) → dependency_order a b ≡ dependency_order (unpinned_identity a) (unpinned_identity b)
unpinned-alike a b = λ i. ordering_then (ordering_then (text_cmp a.name b.name) (text_cmp (parts_text a.version) (parts_text b.version))) (sources-alike a.source b.source i)

unpinned-twice : (x : Option Source) → option_map unpinned (option_map unpinned x) ≡ option_map unpinned x
unpinned-twice None = refl
unpinned-twice (Some s) = refl

same-unpinned : (d e : Identity) → IsReferenceTo d e → unpinned_identity d ≡ unpinned_identity e
same-unpinned d e (inl same) = sym (ap unpinned_identity same)
same-unpinned d e (inr same) = sym (ap unpinned_identity same ∙ (λ i. record d { source = unpinned-twice d.source i }))

references-alike : (a b d e : Identity) → IsReferenceTo a d → IsReferenceTo b e → dependency_order a b ≡ dependency_order d e
references-alike a b d e first second =
    let x = same-unpinned a d first in
    let y = same-unpinned b e second in
    unpinned-alike a b ∙ ((λ i. dependency_order (x i) (y i)) ∙ sym (unpinned-alike d e))

packages-alike : (a b p q : PackageData) → IsReferring a p → IsReferring b q → package_order a b ≡ package_order p q
packages-alike a b p q first second =
    let x = sym first.identity in
    let y = sym second.identity in
    λ i. patch_order (x i) (y i)

dependencies-beside : (ps qs : List PackageData) → AllZip IsReferring ps qs → All HasSortedDependencies ps → All HasSortedDependencies qs
dependencies-beside [] [] zip all = λ k d low. absurd (omega (arith, low))
dependencies-beside [] (q ∷ qs) zip all = absurd zip
dependencies-beside (p ∷ ps) [] zip all = absurd zip
dependencies-beside (p ∷ ps) (q ∷ qs) zip all =
    All-cons HasSortedDependencies q qs
    (sorted-beside IsReferenceTo dependency_order dependency_order references-alike p.dependencies q.dependencies zip.0.dependencies (all zero p (omega arith)))
    (dependencies-beside ps qs zip.1 (All-tail HasSortedDependencies p ps all))

-- with commits or without, packages are in the same order
pub referring-in-order : (ps qs : List PackageData) → AllZip IsReferring ps qs → AreInCargoOrder ps → AreInCargoOrder qs
referring-in-order ps qs zip h = record {
  packages = sorted-beside IsReferring package_order package_order packages-alike ps qs zip h.packages;
  dependencies = dependencies-beside ps qs zip h.dependencies;
}

-- ---- unused patches

abbrev IsOf : PackageData → Identity → Type 0
IsOf p d = identity_of p ≡ d

identities-beside : (ps : List PackageData) → AllZip IsOf ps (map identity_of ps)
identities-beside [] = tt
identities-beside (p ∷ ps) = (refl, identities-beside ps)

patches-alike : (a b : PackageData) (d e : Identity) → IsOf a d → IsOf b e → package_order a b ≡ patch_order d e
patches-alike a b d e first second = λ i. patch_order (first i) (second i)

-- the identities of packages are in the order of these
pub patches-in-order : (ps : List PackageData) → IsSorted package_order ps → IsSorted patch_order (map identity_of ps)
patches-in-order ps sorted = sorted-beside IsOf package_order patch_order patches-alike ps (map identity_of ps) (identities-beside ps) sorted

-- ---- moved references

-- the packages of a reference with their identities are those of a marked one
record IsBeside (n : Named) (r : Moved) : Type 0 where
  from : n.found.merged.from.now ≡ r.found.merged.from.now
  to : n.to ≡ identity_of r.found.merged.to.now

moved-beside : (packages : List PackageData) (fs : List merging.Moved) (ns : List Named) (rs : List Moved) → AreNamedMoved fs ns → AreMarkedMoved packages ns rs → AllZip IsBeside ns rs
moved-beside packages [] [] [] named marked = tt
moved-beside packages [] [] (r ∷ rs) named marked = absurd marked
moved-beside packages [] (n ∷ ns) rs named marked = absurd named
moved-beside packages (f ∷ fs) [] rs named marked = absurd named
moved-beside packages (f ∷ fs) (n ∷ ns) [] named marked = absurd marked
moved-beside packages (f ∷ fs) (n ∷ ns) (r ∷ rs) named marked = (
  record {
    from = ap (λ (m : merging.Moved). m.merged.from.now) (sym marked.0.same);
    to = named.0.to ∙ ap (λ (m : merging.Moved). identity_of m.merged.to.now) (sym (marked.0.same ∙ named.0.same));
  },
  moved-beside packages fs ns rs named.1 marked.1,
)

moved-alike : (a b : Named) (p q : Moved) → IsBeside a p → IsBeside b q → named_order a b ≡ moved_order p q
moved-alike a b p q first second =
    let from = first.from in
    let from' = second.from in
    let to = first.to in
    let to' = second.to in
    λ i. ordering_then (package_order (from i) (from' i)) (dependency_order (to i) (to' i))

-- marked, references are in the same order
pub moved-in-order : (packages : List PackageData) (fs : List merging.Moved) (ns : List Named) (rs : List Moved) → AreNamedMoved fs ns → AreMarkedMoved packages ns rs → IsSorted named_order ns → IsSorted moved_order rs
moved-in-order packages fs ns rs named marked = sorted-beside IsBeside named_order moved_order moved-alike ns rs (moved-beside packages fs ns rs named marked)
