-- How many packages without a source have a name, one package after another.
use Rattle.std.proofs.Common.{◌≡◌, ◌≢◌, ◌∙◌, ◌<◌, ◌+◌, ◌↔◌, ◌⊎◌, ℕ, Bool, true, false, cond, List, Option, Some, None, get_or, is_none, is_some, length, not, take, ap, inl, inr, refl, sym}
use Rattle.std.specs.BTreeMap.{BTreeMap}
use Rattle.std.specs.Borrow.{Bor}
use Rattle.std.specs.Cmp.Lexicographic.{slice_cmp}
use Rattle.std.specs.Ordering.{is_eq, nat_cmp}
use Rattle.std.specs.Str.{bytes_eq}
use Rattle.std.proofs.lemmas.List.Sums.{count_by_more_no, count_by_more_yes}
use Rattle.std.proofs.lemmas.Map.Text.{is_eq-slice_cmp}
use Rattle.std.proofs.lemmas.Slice.Eq.{bytes_eq-Decides}
use Rattle.std.specs.Prelude.{◌&&◌, unwrap_or}
use Rattle.cargo_lock_parts.specs.Identity.{PackageData}
use Rattle.cargo_lock_merge_core.specs.Located.{AreCounts, member_count}
use Rattle.cargo_lock_merge_core.specs.Places.{is_member_named}

-- what a name has after it was put with a number
pub put-cases : (name other : List ℕ) (new : Option ℕ) (n : ℕ) (old : Option ℕ) → new ≡ cond (is_eq (slice_cmp nat_cmp name other)) (Some n) old
    → ((other ≡ name) × (unwrap_or new 0 ≡ n)) ⊎ ((other ≢ name) × (unwrap_or new 0 ≡ unwrap_or old 0))
put-cases name other new n old is = go (bytes_eq name other) (bytes_eq-Decides name other) (is ∙ ap (λ b. cond b (Some n) old) (is_eq-slice_cmp name other)) where
  go : (b : Bool) → (b ≡ true) ↔ (name ≡ other) → new ≡ cond b (Some n) old
      → ((other ≡ name) × (unwrap_or new 0 ≡ n)) ⊎ ((other ≢ name) × (unwrap_or new 0 ≡ unwrap_or old 0))
  go true same is = inl (sym (same.0 refl), ap (λ o. unwrap_or o 0) is)
  go false same is = inr (λ e. let w : false ≡ true = same.1 (sym e) in cc w, ap (λ o. unwrap_or o 0) is)

-- a package without a source has its own name
named : (name : List ℕ) (p : PackageData) → p.source ≡ None → name ≡ p.name → is_member_named name p ≡ true
named name p none same = ap (λ (s : Option _). is_none s && bytes_eq name p.name) none ∙ (bytes_eq-Decides name p.name).1 same

-- and no other one
not-named : (name : List ℕ) (p : PackageData) → p.source ≡ None → name ≢ p.name → is_member_named name p ≡ false
not-named name p none other = ap (λ (s : Option _). is_none s && bytes_eq name p.name) none ∙ go (bytes_eq name p.name) (bytes_eq-Decides name p.name) where
  go : (b : Bool) → (b ≡ true) ↔ (name ≡ p.name) → b ≡ false
  go true same = absurd (other (same.0 refl))
  go false same = refl

-- one more package without a source
pub counted-more : (ps : List PackageData) (i : ℕ) (p : PackageData) (old new : BTreeMap (Bor (List ℕ)) ℕ) → i < length ps → p ≡ get_or ps i p → p.source ≡ None
    → ((other : List ℕ) → ((other ≡ p.name) × (member_count new other ≡ member_count old p.name + 1)) ⊎ ((other ≢ p.name) × (member_count new other ≡ member_count old other)))
    → AreCounts (take i ps) old → AreCounts (take (i + 1) ps) new
counted-more ps i p old new within is none puts so-far name = elim (puts name) [
  | inl mine ↦ mine.1 ∙ ap (λ n. n + 1) (ap (member_count old) (sym mine.0) ∙ so-far name)
      ∙ sym (count_by_more_yes (is_member_named name) ps i p within (ap (is_member_named name) (sym is) ∙ named name p none mine.0))
  | inr other ↦ other.1 ∙ so-far name
      ∙ sym (count_by_more_no (is_member_named name) ps i p within (ap (is_member_named name) (sym is) ∙ not-named name p none other.0))
]

-- one more package with a source
pub counted-same : (ps : List PackageData) (i : ℕ) (p : PackageData) (old : BTreeMap (Bor (List ℕ)) ℕ) → i < length ps → p ≡ get_or ps i p → is_none p.source ≡ false
    → AreCounts (take i ps) old → AreCounts (take (i + 1) ps) old
counted-same ps i p old within is sourced so-far name = so-far name
    ∙ sym (count_by_more_no (is_member_named name) ps i p within (ap (is_member_named name) (sym is) ∙ ap (λ b. b && bytes_eq name p.name) sourced))

-- what `is_none` says of a source
pub none-of : {X : Type 0} (o : Option X) (b : Bool) → is_some o ≡ not b → b ≡ true → o ≡ None
none-of None b says holds = refl
none-of (Some x) b says holds = let w : true ≡ false = says ∙ ap not holds in cc w

pub some-of : {X : Type 0} (o : Option X) (b : Bool) → is_some o ≡ not b → b ≡ false → is_none o ≡ false
some-of None b says fails = let w : false ≡ true = says ∙ ap not fails in cc w
some-of (Some x) b says fails = refl
