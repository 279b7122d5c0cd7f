-- Homes are compared by the packages that stand for them.
use Rattle.std.proofs.Common.{◌≡◌, ℕ, ◌+◌, ◌-◌, ◌<◌, ◌≤◌, Bool, true, false, cond, List, [], ◌∷◌, ◌++◌, ◌⊎◌, inl, inr, Option, Some, None, take, length, get_or, refl, ap, sym, ◌∙◌, subst, arith, IsSorted}
use Rattle.std.specs.Prelude.{◌||◌, MatchOption}
use Rattle.std.specs.Borrow.{Bor}
use Rattle.std.specs.Cmp.{IsTotalOrder, nat_cmp_total, on_total, then_total}
use Rattle.std.specs.Cmp.Lexicographic.{nat_list_cmp_total}
use Rattle.std.specs.List.{AllZip, Contains, list_any}
use Rattle.std.specs.List.Sorted.{IsSortedWithin}
use Rattle.std.specs.Option.{option_cmp}
use Rattle.std.specs.Ordering.{eq_by_cmp, is_eq, is_gt, ordering_reverse, ordering_then}
use Rattle.std.specs.declared.cmp.Ordering.{Ordering}
use Rattle.std.specs.declared.cmp.Ordering.TheVariants.{Less, Equal, Greater}
use Rattle.std.proofs.lemmas.Bool.{cases_eq, cases_order}
use Rattle.std.proofs.lemmas.Cmp.{tied_back, tied_itself}
use Rattle.std.proofs.lemmas.List.{get_or_default, map-append}
use Rattle.std.proofs.lemmas.List.Elements.{AllZip-push}
use Rattle.std.proofs.lemmas.List.Folds.{list_any_none}
use Rattle.cargo_lock_parts.specs.Identity.{PackageData}
use Rattle.cargo_lock_parts.specs.IdentityLaws.{by_name_version_source-total, version_total}
use Rattle.cargo_lock_parts.specs.IdentityOrder.{version_cmp}
use Rattle.url.specs.Parts.{Parts}
use Rattle.cargo_lock_parts.specs.Source.{DefaultBranch, Git, Source}
use Rattle.cargo_lock_parts.specs.SourceKey.{git_reference_text, text_cmp}
use Rattle.cargo_lock_parts.specs.SourceReading.{plain_source}
use Rattle.cargo_lock_order.specs.Canonical.{canonical}
use Rattle.cargo_lock_order.specs.Order.{by_kind_and_url, kind_order, kind_place, package_order}
use Rattle.cargo_lock_diff.specs.declared.likeness.Likeness.TheVariants.{Name}
use Rattle.cargo_lock_diff.specs.Difference.{referred_packages}
use Rattle.cargo_lock_diff.specs.Home.{bare_cmp, have_one_home, home_cmp, is_home_of_both}
use Rattle.cargo_lock_diff.specs.Likeness.{is_alike}
use Rattle.cargo_lock_diff.specs.StandIn.{IsBare, StandsForSource, StandsFor, version_of_names, version_of_sources}
use Rattle.cargo_lock_diff.specs.Stranger.{IsNamesake}
use Rattle.cargo_lock_diff.proofs.Alone.{up-to}
use Rattle.cargo_lock_diff.proofs.Merging.{one-more}
use Rattle.cargo_lock_diff.proofs.Vouched.{any-there}

-- the order of packages is total
pub order_total : IsTotalOrder package_order
order_total = by_name_version_source-total (λ (p : PackageData). p.name)
    (λ (p : PackageData). p.version) (λ (p : PackageData). p.source) version_total
    (then_total
    (on_total (λ (s : Source). s.kind) (then_total (on_total kind_place nat_cmp_total) (on_total git_reference_text nat_list_cmp_total)))
    (on_total (λ (s : Source). canonical s.url) nat_list_cmp_total))

-- ---- what stands for two homes ties where the homes are one

name-alone : (r : Ordering) → is_eq (ordering_then (ordering_then r Equal) Equal) ≡ is_eq r
name-alone Less = refl
name-alone Equal = refl
name-alone Greater = refl

version-apart : (r s t : Ordering) → is_eq s ≡ false → is_eq (ordering_then (ordering_then r s) t) ≡ false
version-apart Less s t h = refl
version-apart Equal Less t h = refl
version-apart Equal Equal t h = cc h
version-apart Equal Greater t h = refl
version-apart Greater s t h = refl

bare-order : (s t : Source) (x y : Option Source) → IsBare s x → IsBare t y → option_cmp (by_kind_and_url canonical) x y ≡ home_cmp s t
bare-order s t None None a b = λ i. option_cmp bare_cmp (cond (sym a i) None (Some s)) (cond (sym b i) None (Some t))
bare-order s t None (Some y) a b = λ i. option_cmp bare_cmp (cond (sym a i) None (Some s)) (cond (sym b.0 i) None (Some t))
bare-order s t (Some x) None a b = λ i. option_cmp bare_cmp (cond (sym a.0 i) None (Some s)) (cond (sym b i) None (Some t))
bare-order s t (Some x) (Some y) a b =
    (λ i. ordering_then (kind_order (a.1 i) (b.1 i)) (text_cmp (canonical (a.2 i)) (canonical (b.2 i))))
    ∙ (λ i. option_cmp bare_cmp (cond (sym a.0 i) None (Some s)) (cond (sym b.0 i) None (Some t)))

stand-ties : (p q a b : PackageData) (s t : Option Source) → StandsForSource p s a → StandsForSource q t b
    → is_eq (package_order a b) ≡ is_home_of_both p q s t
stand-ties p q a b None None x y =
    (λ i. is_eq (ordering_then (ordering_then (text_cmp (x.0 i) (y.0 i)) (version_cmp (x.1 i) (y.1 i))) (option_cmp (by_kind_and_url canonical) (x.2 i) (y.2 i))))
    ∙ (λ i. is_eq (ordering_then (ordering_then (text_cmp p.name q.name) (tied_itself version_total version_of_names i)) Equal))
    ∙ name-alone (text_cmp p.name q.name)
stand-ties p q a b None (Some t) x y =
    (λ i. is_eq (ordering_then (ordering_then (text_cmp (x.0 i) (y.0 i)) (version_cmp (x.1 i) (y.1 i))) (option_cmp (by_kind_and_url canonical) (x.2 i) b.source)))
    ∙ version-apart (text_cmp p.name []) (version_cmp version_of_names version_of_sources) (option_cmp (by_kind_and_url canonical) None b.source) refl
stand-ties p q a b (Some s) None x y =
    (λ i. is_eq (ordering_then (ordering_then (text_cmp (x.0 i) (y.0 i)) (version_cmp (x.1 i) (y.1 i))) (option_cmp (by_kind_and_url canonical) a.source (y.2 i))))
    ∙ version-apart (text_cmp [] q.name) (version_cmp version_of_sources version_of_names) (option_cmp (by_kind_and_url canonical) a.source None) refl
stand-ties p q a b (Some s) (Some t) x y =
    (λ i. is_eq (ordering_then (ordering_then (text_cmp (x.0 i) (y.0 i)) (version_cmp (x.1 i) (y.1 i))) (option_cmp (by_kind_and_url canonical) a.source b.source)))
    ∙ (λ i. is_eq (ordering_then (ordering_then Equal (tied_itself version_total version_of_sources i)) (option_cmp (by_kind_and_url canonical) a.source b.source)))
    ∙ ap is_eq (bare-order s t a.source b.source x.2 y.2)

-- packages from repositories that differ in nothing but their URLs are in the order of these
pub url-order : (a b : PackageData) (u w : Parts) → a.name ≡ [] → b.name ≡ [] → a.version ≡ version_of_sources → b.version ≡ version_of_sources
    → a.source ≡ Some (plain_source (Git DefaultBranch) None u) → b.source ≡ Some (plain_source (Git DefaultBranch) None w)
    → package_order a b ≡ text_cmp (canonical u) (canonical w)
url-order a b u w name name' version version' source source' =
    (λ i. ordering_then (ordering_then (text_cmp (name i) (name' i)) (version_cmp (version i) (version' i))) (option_cmp (by_kind_and_url canonical) (source i) (source' i)))
    ∙ (λ i. ordering_then (ordering_then Equal (tied_itself version_total version_of_sources i)) (text_cmp (canonical u) (canonical w)))

-- some of what stands for packages ties with what stands for p where one of them has p's home
pub known-by : (p home : PackageData) → StandsFor p home → (olds homes : List PackageData) → AllZip StandsFor olds homes
    → list_any (eq_by_cmp package_order home) homes ≡ list_any (have_one_home p) olds
known-by p home stands [] [] zip = refl
known-by p home stands [] (h ∷ hs) zip = absurd zip
known-by p home stands (o ∷ os) [] zip = absurd zip
known-by p home stands (o ∷ os) (h ∷ hs) zip =
    λ i. stand-ties p o home h p.source o.source stands zip.0 i || known-by p home stands os hs zip.1 i

-- one more stands for its home
pub one-more-stands : (items : List (Bor PackageData)) (i : ℕ) (x : Bor PackageData) (all all' : List PackageData) (home : PackageData)
    → i < length items → x ≡ get_or items i x → AllZip StandsFor (referred_packages (take i items)) all → StandsFor x.now home → all' ≡ all ++ home ∷ []
    → AllZip StandsFor (referred_packages (take (i + 1) items)) all'
one-more-stands items i x all all' home lt at zip stands is =
    subst (λ zs. AllZip StandsFor zs all')
    (sym (ap referred_packages (one-more items i x lt at) ∙ map-append (λ (b : Bor PackageData). b.now) (take i items) (x ∷ [])))
    (subst (λ zs. AllZip StandsFor (referred_packages (take i items) ++ x.now ∷ []) zs) (sym is)
    (AllZip-push StandsFor (referred_packages (take i items)) all x.now home zip stands))

-- ---- a list that is in order

-- one more element that is not before the one before it
pub sorted-more : {X : Type 0} (lt : X → X → Bool) (xs : List X) (i : ℕ) (x y : X) → 0 < i → i < length xs → x ≡ get_or xs i x → y ≡ get_or xs (i - 1) y
    → lt x y ≡ false → IsSortedWithin lt xs 0 i → IsSortedWithin lt xs 0 (i + 1)
sorted-more lt xs i x y some within at before step up k d low high = elim (cases_eq (k + 1) i) [
  | inl same ↦
      let here : get_or xs (k + 1) d ≡ x = ap (λ j. get_or xs j d) same ∙ get_or_default xs i d x within ∙ sym at in
      let back : k ≡ i - 1 = omega (arith, same) in
      let prior : get_or xs k d ≡ y = ap (λ j. get_or xs j d) back ∙ get_or_default xs (i - 1) d y (omega (arith, some, within)) ∙ sym before in
      (λ j. lt (here j) (prior j)) ∙ step
  | inr other ↦ up k d low (omega (arith, high, other))
]

-- ---- a search in a sorted list

-- what is before the place comes before p, and what is from it on behind p
abbrev pub AreBefore : {X : Type 0} → (X → X → Ordering) → List X → X → ℕ → Type 0
AreBefore {X} cmp xs p i = (k : ℕ) (d : X) → k < i → k < length xs → cmp (get_or xs k d) p ≡ Less

abbrev pub AreBehind : {X : Type 0} → (X → X → Ordering) → List X → X → ℕ → Type 0
AreBehind {X} cmp xs p i = (k : ℕ) (d : X) → i ≤ k → k < length xs → cmp (get_or xs k d) p ≡ Greater

module _ {X : Type 0} {cmp : X → X → Ordering} (o : IsTotalOrder cmp) where
  below-less : (z x p : X) (r : Ordering) → cmp z x ≡ r → is_gt r ≡ false → cmp x p ≡ Less → cmp z p ≡ Less
  below-less z x p Less e g h = o.trans z x p e h
  below-less z x p Equal e g h = o.congr z x p e ∙ h
  below-less z x p Greater e g h = absurd cc

  above-greater : (x z p : X) (r : Ordering) → cmp x z ≡ r → is_gt r ≡ false → cmp x p ≡ Greater → cmp z p ≡ Greater
  above-greater x z p Less e g h =
      let back : cmp p x ≡ Less = o.antisymm p x ∙ ap ordering_reverse h in
      o.antisymm z p ∙ ap ordering_reverse (o.trans p x z back e)
  above-greater x z p Equal e g h = sym (o.congr x z p e) ∙ h
  above-greater x z p Greater e g h = absurd cc

  pub before-more : (xs : List X) → IsSorted cmp xs → (i : ℕ) (x p : X) → i < length xs → x ≡ get_or xs i x → cmp x p ≡ Less
      → AreBefore cmp xs p (i + 1)
  before-more xs up i x p within at less k d lt inside =
      let here : get_or xs i d ≡ x = get_or_default xs i d x within ∙ sym at in
      let step : is_gt (cmp (get_or xs k d) (get_or xs i d)) ≡ false = up-to o xs up k i d (omega arith) within in
      below-less (get_or xs k d) (get_or xs i d) p (cmp (get_or xs k d) (get_or xs i d)) refl step (ap (λ (z : X). cmp z p) here ∙ less)

  pub behind-more : (xs : List X) → IsSorted cmp xs → (i : ℕ) (x p : X) → i < length xs → x ≡ get_or xs i x → cmp x p ≡ Greater
      → AreBehind cmp xs p i
  behind-more xs up i x p within at more k d le inside =
      let here : get_or xs i d ≡ x = get_or_default xs i d x within ∙ sym at in
      let step : is_gt (cmp (get_or xs i d) (get_or xs k d)) ≡ false = up-to o xs up i k d le inside in
      above-greater (get_or xs i d) (get_or xs k d) p (cmp (get_or xs i d) (get_or xs k d)) refl step (ap (λ (z : X). cmp z p) here ∙ more)

  pub hit : (xs : List X) (i : ℕ) (x p : X) → i < length xs → x ≡ get_or xs i x → cmp x p ≡ Equal → list_any (eq_by_cmp cmp p) xs ≡ true
  hit xs i x p within at tie = any-there (eq_by_cmp cmp p) xs x (i, within, sym at) (ap is_eq (tied_back o x p tie))

  behind-apart : (x p : X) (r : Ordering) → cmp x p ≡ r → is_eq r ≡ false → is_eq (cmp p x) ≡ false
  behind-apart x p Less e h = ap is_eq (o.antisymm p x ∙ ap ordering_reverse e)
  behind-apart x p Equal e h = absurd cc
  behind-apart x p Greater e h = ap is_eq (o.antisymm p x ∙ ap ordering_reverse e)

  pub missed : (xs : List X) (low high : ℕ) (p : X) → high ≤ low → AreBefore cmp xs p low → AreBehind cmp xs p high
      → list_any (eq_by_cmp cmp p) xs ≡ false
  missed xs low high p met before behind = list_any_none (eq_by_cmp cmp p) xs (λ k d lt. apart k d lt (cases_order k low))
    where
      apart : (k : ℕ) (d : X) → k < length xs → ((k ≡ low) ⊎ ((k < low) ⊎ (low < k))) → eq_by_cmp cmp p (get_or xs k d) ≡ false
      apart k d lt (inl e) = behind-apart (get_or xs k d) p Greater (behind k d (omega (arith, e)) lt) refl
      apart k d lt (inr (inl below)) = behind-apart (get_or xs k d) p Less (before k d below lt) refl
      apart k d lt (inr (inr above)) = behind-apart (get_or xs k d) p Greater (behind k d (omega arith) lt) refl

-- ---- what is looked up by name

pub named : (p : PackageData) (olds : List PackageData) (r : Option (Bor PackageData))
    → MatchOption r (list_any (is_alike Name p) olds ≡ false) (λ o. Contains olds o.now × (is_alike Name p o.now ≡ true))
    → MatchOption r (list_any (is_alike Name p) olds ≡ false)
    (λ o. (list_any (is_alike Name p) olds ≡ true) × IsNamesake olds (o.now, p))
named p olds None none = none
named p olds (Some o) found = (any-there (is_alike Name p) olds o.now found.0 found.1, found)
