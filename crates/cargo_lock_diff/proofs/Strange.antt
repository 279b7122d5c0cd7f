-- Which packages come from a new source among more pairs and packages, and for the same old packages.
use Rattle.std.proofs.Common.{◌≡◌, ℕ, ◌+◌, ◌<◌, Bool, true, false, not, List, [], ◌∷◌, ◌++◌, Option, Some, None, take, length, get_or, ap, sym, ◌∙◌, subst, IsPermutation, All}
use Rattle.std.specs.Prelude.{◌&&◌, ◌||◌, MatchOption}
use Rattle.std.specs.Borrow.{Bor}
use Rattle.std.specs.List.{filter, list_any}
use Rattle.std.proofs.lemmas.List.{map-append}
use Rattle.std.proofs.lemmas.List.Elements.{All-push, All-weaker}
use Rattle.std.proofs.lemmas.List.Sorted.{Contains-permutation, IsPermutation-sym, list_any-IsPermutation}
use Rattle.cargo_lock_parts.specs.Identity.{PackageData}
use Rattle.cargo_lock_diff.specs.declared.accepted.Accepted.{Accepted}
use Rattle.cargo_lock_diff.specs.declared.likeness.Likeness.TheVariants.{Name}
use Rattle.cargo_lock_diff.specs.Accepted.{accepts}
use Rattle.cargo_lock_diff.specs.Difference.{referred_packages, referred_pairs}
use Rattle.cargo_lock_diff.specs.Home.{have_one_home}
use Rattle.cargo_lock_diff.specs.Likeness.{is_alike}
use Rattle.cargo_lock_diff.specs.Matching.{seconds}
use Rattle.cargo_lock_diff.specs.Same.{have_one_place}
use Rattle.cargo_lock_diff.specs.Stranger.{AreStrangers, IsNamesake, is_strange_pair, is_stranger}
use Rattle.cargo_lock_diff.proofs.Leads.{filter-same}
use Rattle.cargo_lock_diff.proofs.Merging.{one-more}
use Rattle.cargo_lock_diff.proofs.Vouched.{filter-hit, filter-miss}

-- ---- one package

abbrev pub Elsewhere : List Accepted → List PackageData → PackageData → Option (Bor PackageData) → Type 0
Elsewhere accepted olds p r = MatchOption r (is_stranger accepted olds p ≡ false)
    (λ o. (is_stranger accepted olds p ≡ true) × IsNamesake olds (o.now, p))

-- ---- one more

one-pushed : (all all' : List (Bor PackageData × Bor PackageData)) (x : Bor PackageData × Bor PackageData) → all' ≡ all ++ x ∷ []
    → referred_pairs all' ≡ referred_pairs all ++ (x.0.now, x.1.now) ∷ []
one-pushed all all' x is = ap referred_pairs is ∙ map-append (λ (q : Bor PackageData × Bor PackageData). (q.0.now, q.1.now)) all (x ∷ [])

abbrev pub AreCame : (PackageData → Bool) → List PackageData → List (Bor PackageData) → ℕ → List (Bor PackageData × Bor PackageData) → Type 0
AreCame q olds items i all = All (IsNamesake olds) (referred_pairs all)
    × (seconds (referred_pairs all) ≡ filter q (referred_packages (take i items)))

one-more-packages : (items : List (Bor PackageData)) (i : ℕ) (x : Bor PackageData) → i < length items → x ≡ get_or items i x
    → referred_packages (take (i + 1) items) ≡ referred_packages (take i items) ++ x.now ∷ []
one-more-packages items i x lt at = ap referred_packages (one-more items i x lt at) ∙ map-append (λ (b : Bor PackageData). b.now) (take i items) (x ∷ [])

-- one more package comes from elsewhere, and is pushed
pub came-hit : (accepted : List Accepted) (olds : List PackageData) (items : List (Bor PackageData)) (all all' : List (Bor PackageData × Bor PackageData)) (i : ℕ) (x o : Bor PackageData) (r : Option (Bor PackageData))
    → i < length items → x ≡ get_or items i x → AreCame (is_stranger accepted olds) olds items i all → all' ≡ all ++ (o, x) ∷ []
    → r ≡ Some o → Elsewhere accepted olds x.now r → AreCame (is_stranger accepted olds) olds items (i + 1) all'
came-hit accepted olds items all all' i x o r lt at so is some h =
    let pushed = one-pushed all all' (o, x) is in
    let found : Elsewhere accepted olds x.now (Some o) = subst (Elsewhere accepted olds x.now) some h in (
      subst (λ zs. All (IsNamesake olds) zs) (sym pushed) (All-push (IsNamesake olds) (referred_pairs all) (o.now, x.now) so.0 found.1),
      ap seconds pushed ∙ map-append (λ (p : PackageData × PackageData). p.1) (referred_pairs all) ((o.now, x.now) ∷ [])
          ∙ ap (λ zs. zs ++ x.now ∷ []) so.1
          ∙ sym (ap (filter (is_stranger accepted olds)) (one-more-packages items i x lt at) ∙ filter-hit (is_stranger accepted olds) (referred_packages (take i items)) x.now found.0),
    )

-- one more package does not
pub came-miss : (accepted : List Accepted) (olds : List PackageData) (items : List (Bor PackageData)) (all : List (Bor PackageData × Bor PackageData)) (i : ℕ) (x : Bor PackageData) (r : Option (Bor PackageData))
    → i < length items → x ≡ get_or items i x → AreCame (is_stranger accepted olds) olds items i all → r ≡ None → Elsewhere accepted olds x.now r
    → AreCame (is_stranger accepted olds) olds items (i + 1) all
came-miss accepted olds items all i x r lt at so none h =
    let miss : is_stranger accepted olds x.now ≡ false = subst (Elsewhere accepted olds x.now) none h in (
      so.0,
      so.1 ∙ sym (ap (filter (is_stranger accepted olds)) (one-more-packages items i x lt at) ∙ filter-miss (is_stranger accepted olds) (referred_packages (take i items)) x.now miss),
    )

-- ---- for the same old packages

stranger-among : (accepted : List Accepted) (olds known : List PackageData) → IsPermutation olds known → (p : PackageData)
    → is_stranger accepted known p ≡ is_stranger accepted olds p
stranger-among accepted olds known perm p =
    let by_name = list_any-IsPermutation (is_alike Name p) olds known perm in
    let by_home = list_any-IsPermutation (have_one_home p) olds known perm in
    λ i. sym by_name i && not (sym by_home i || list_any (λ a. accepts a p.source) accepted)

pub strangers-among : (accepted : List Accepted) (olds known : List PackageData) → IsPermutation olds known
    → (pairs : List (PackageData × PackageData)) (added : List PackageData) (strange usual came : List (PackageData × PackageData))
    → AreStrangers accepted known pairs added strange usual came → AreStrangers accepted olds pairs added strange usual came
strangers-among accepted olds known perm pairs added strange usual came s =
    let same = stranger-among accepted olds known perm in
    let pair_same : (p : PackageData × PackageData) → is_strange_pair accepted known p ≡ is_strange_pair accepted olds p
    = λ p. ap (λ b. not (have_one_place p.0 p.1) && b) (same p.1) in
    record {
      are_strange = s.are_strange ∙ filter-same (is_strange_pair accepted known) (is_strange_pair accepted olds) pair_same pairs;
      are_usual = s.are_usual ∙ filter-same (λ p. not (is_strange_pair accepted known p)) (λ p. not (is_strange_pair accepted olds p)) (λ p. ap not (pair_same p)) pairs;
      have_come = s.have_come ∙ filter-same (is_stranger accepted known) (is_stranger accepted olds) same added;
      named = All-weaker (IsNamesake known) (IsNamesake olds)
          (λ p h. (Contains-permutation known olds p.0 (IsPermutation-sym olds known perm) h.0, h.1)) came s.named;
    }
