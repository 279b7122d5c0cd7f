-- Lists of packages that are merged again: the places stay, where no list has two packages of one
-- name without source.
use Rattle.std.proofs.Common.{◌≡◌, ◌≢◌, ◌≤◌, inl, inr, ℕ, suc, Bool, true, false, cond, List, [], ◌∷◌, ◌<◌, get_or, length, Option, Some, None, option_map, refl, sym, ap, ◌∙◌, arith}
use Rattle.std.specs.Prelude.{bytes_eq, count_by, is_none, nat_lt}
use Rattle.std.specs.List.{AllPairs, filter}
use Rattle.std.proofs.lemmas.Bool.{and_parts, cases_Bool, le-ltb, or_from, or_parts}
use Rattle.std.proofs.lemmas.List.Sums.{length-filter}
use Rattle.std.proofs.lemmas.Slice.Eq.{bytes_eq-Decides}
use Rattle.cargo_lock_parts.specs.Identity.{Identity, PackageData}
use Rattle.cargo_lock_parts.specs.Source.{Source}
use Rattle.cargo_lock_edges.specs.Nearest.{key_without_commit}
use Rattle.cargo_lock_merge_core.specs.Commits.{Lockfiles}
use Rattle.cargo_lock_merge_core.specs.LawsOfMerges.{HaveNoneTwice, HaveOneCommitEach, triple}
use Rattle.cargo_lock_merge_core.specs.Placed.{PlacedData}
use Rattle.cargo_lock_merge_core.specs.Places.{ArePlaced, IsMergeOf, IsPlaceIn, IsPlaced, IsReplacementIn, Place, has_several, is_member_named, merge_place, version_in}
use Rattle.cargo_lock_merge_core.proofs.Soundness.{lists-lockfiles}
use Rattle.cargo_lock_merge_core.proofs.Stable.{merge-again, merge-again-theirs}

-- ---- packages of one name without source

none-source : (o : Option Source) → is_none o ≡ true → o ≡ None
none-source None e = refl
none-source (Some s) e = absurd (cc e)

member-place : List ℕ → Place
member-place name = record { name = name; version = None; source = None }

module _ (all : Lockfiles) (packages : List PackageData) (xs : List (PlacedData Place)) (h : ArePlaced all packages xs) (name : List ℕ) (none : has_several all name ≡ false) where
  placed-member : (p : PackageData) → is_member_named name p ≡ true → merge_place all p ≡ member-place name
  unfolding member-place
  placed-member p e =
      let (bare, same) = and_parts (is_none p.source) (bytes_eq name p.name) e in
      let source : p.source ≡ None = none-source p.source bare in
      let named : name ≡ p.name = (bytes_eq-Decides name p.name).0 same in
      let several : has_several all p.name ≡ false = ap (has_several all) (sym named) ∙ none in
      λ i. record {
        name = sym named i;
        version = (ap (λ (b : Bool). version_in b p.version p.source) several ∙ ap (λ (o : Option Source). version_in false p.version o) source) i;
        source = (ap (λ (o : Option Source). option_map key_without_commit o) source) i;
      }

  -- those at distinct places are at most one
  member-none : (p : PackageData) (ps : List PackageData) → is_member_named name p ≡ true → ((k : ℕ) (d : PackageData) → k < length ps → ¬ (merge_place all p ≡ merge_place all (get_or ps k d)))
      → length (filter (is_member_named name) ps) ≡ 0
  member-none p [] e apart = refl
  member-none p (q ∷ ps) e apart =
      let rest = member-none p ps e (λ k d low. apart (suc k) d (omega (arith, low))) in
      elim (cases_Bool (is_member_named name q)) [
        | inl pass ↦ absurd (apart 0 q (omega arith) (placed-member p e ∙ sym (placed-member q pass)))
        | inr fail ↦
            let n : length (filter (is_member_named name) (q ∷ ps)) ≡ length (filter (is_member_named name) ps) = ap (λ (b : Bool). length (cond b (q ∷ filter (is_member_named name) ps) (filter (is_member_named name) ps))) fail in
            n ∙ rest
      ]

  member-once : (ps : List PackageData) → AllPairs (λ p q. merge_place all p ≢ merge_place all q) ps → length (filter (is_member_named name) ps) ≤ 1
  member-once [] apart = omega arith
  member-once (p ∷ ps) apart = elim (cases_Bool (is_member_named name p)) [
    | inl pass ↦
        let none = member-none p ps pass (λ k d low. apart 0 (suc k) d (omega arith) (omega (arith, low))) in
        let n : length (filter (is_member_named name) (p ∷ ps)) ≡ suc (length (filter (is_member_named name) ps)) = ap (λ (b : Bool). length (cond b (p ∷ filter (is_member_named name) ps) (filter (is_member_named name) ps))) pass in
        omega (arith, none, n)
    | inr fail ↦
        let one = member-once ps (λ i j d less low. apart (suc i) (suc j) d (omega (arith, less)) (omega (arith, low))) in
        let n : length (filter (is_member_named name) (p ∷ ps)) ≡ length (filter (is_member_named name) ps) = ap (λ (b : Bool). length (cond b (p ∷ filter (is_member_named name) ps) (filter (is_member_named name) ps))) fail in
        omega (arith, one, n)
  ]

  -- placed packages have at most one
  pub one-member : nat_lt 1 (count_by (is_member_named name) packages) ≡ false
  one-member =
      let once = member-once packages h.distinct in
      le-ltb 1 (count_by (is_member_named name) packages) (omega (arith, once, length-filter (is_member_named name) packages))

-- ---- the same places

module _ (all all' : Lockfiles) (same : (p : PackageData) → merge_place all p ≡ merge_place all' p) where
  target : (packages : List PackageData) (i : Identity) (p : Place) → IsPlaceIn all packages i p → IsPlaceIn all' packages i p
  target packages i p (k, q, to, at, is) = (k, q, to, at, is ∙ same q)

  replaced : (packages : List PackageData) (i : Option Identity) (p : Option Place) → IsReplacementIn all packages i p → IsReplacementIn all' packages i p
  replaced packages None p h = h
  replaced packages (Some i) None h = h
  replaced packages (Some i) (Some p) (k, q, stated, at, is) = (k, q, stated, at, is ∙ same q)

  is-placed : (packages : List PackageData) (p : PackageData) (x : PlacedData Place) → IsPlaced all packages p x → IsPlaced all' packages p x
  is-placed packages p x h = record {
    place = h.place ∙ same p;
    content = h.content;
    found = λ i k. let (d, at, c) = h.found i k in (d, target packages i d at, c);
    dependencies = λ d k. let (i, c, at) = h.dependencies d k in (i, c, target packages i d at);
    replacement = replaced packages p.replace x.replacement h.replacement;
  }

  pub are-placed : (packages : List PackageData) (xs : List (PlacedData Place)) → ArePlaced all packages xs → ArePlaced all' packages xs
  are-placed packages xs h = record {
    distinct = λ i j d less low e. h.distinct i j d less low (same (get_or packages i d) ∙ e ∙ sym (same (get_or packages j d)));
    one = h.one;
    each = λ x k. let (p, c, is) = h.each x k in (p, c, is-placed packages p x is);
    all_there = λ p k. let (x, c, is) = h.all_there p k in (x, c, is-placed packages p x is);
  }

-- ---- no list has two

-- the list has no two packages of one name without source
abbrev pub HasNoneTwice : List PackageData → Type 0
HasNoneTwice packages = (name : List ℕ) → nat_lt 1 (count_by (is_member_named name) packages) ≡ false

none-of : (b o t : List PackageData) → HaveNoneTwice (record { base = b; ours = o; theirs = t }) → HasNoneTwice b × HasNoneTwice o × HasNoneTwice t
none-of b o t h = (λ name. (parts name).0, λ name. (parts name).1, λ name. (parts name).2)
  where
    parts : (name : List ℕ) → (nat_lt 1 (count_by (is_member_named name) b) ≡ false) × (nat_lt 1 (count_by (is_member_named name) o) ≡ false)
        × (nat_lt 1 (count_by (is_member_named name) t) ≡ false)
    parts name =
        let (first, sides) = or_parts _ _ (h name) in
        let (second, last) = or_parts _ _ sides in
        (first, second, (or_parts _ _ last).0)

none-from : (b o t : List PackageData) → HasNoneTwice b → HasNoneTwice o → HasNoneTwice t → HaveNoneTwice (record { base = b; ours = o; theirs = t })
none-from b o t hb ho ht name = or_from _ _ (hb name) (or_from _ _ (ho name) (or_from _ _ (ht name) refl))

-- then places have no version of a package without source
place-same : (all all' : Lockfiles) → HaveNoneTwice all → HaveNoneTwice all' → (p : PackageData) → merge_place all p ≡ merge_place all' p
place-same all all' none none' p = λ i. record {
  name = p.name;
  version = version_in ((none p.name ∙ sym (none' p.name)) i) p.version p.source;
  source = option_map key_without_commit p.source;
}

-- ---- the whole

module _ (all : Lockfiles) (m : List PackageData) (h : IsMergeOf all m) (one : HaveOneCommitEach all) (none : HaveNoneTwice all) where
  none-merged : HasNoneTwice m
  none-merged name = one-member all m h.merged h.packages name (none name)

  placed-in : (all' : Lockfiles) → HaveNoneTwice all' → (packages : List PackageData) (xs : List (PlacedData Place)) → ArePlaced all packages xs → ArePlaced all' packages xs
  placed-in all' none' = are-placed all all' (place-same all all' none none')

  pub again-ours : IsMergeOf (record all { ours = m }) m
  again-ours =
      let lists = none-of all.base all.ours all.theirs none in
      let re = placed-in (record all { ours = m }) (none-from all.base m all.theirs lists.0 none-merged lists.2) in
      record {
        placed = triple h.placed.base h.merged h.placed.theirs;
        merged = h.merged;
        base = re all.base h.placed.base h.base;
        ours = re m h.merged h.packages;
        theirs = re all.theirs h.placed.theirs h.theirs;
        packages = re m h.merged h.packages;
        merge = (merge-again h.placed (lists-lockfiles all m h one) h.merged h.merge).merge;
      }

  pub again-theirs : IsMergeOf (record all { theirs = m }) m
  again-theirs =
      let lists = none-of all.base all.ours all.theirs none in
      let re = placed-in (record all { theirs = m }) (none-from all.base all.ours m lists.0 lists.1 none-merged) in
      record {
        placed = triple h.placed.base h.placed.ours h.merged;
        merged = h.merged;
        base = re all.base h.placed.base h.base;
        ours = re all.ours h.placed.ours h.ours;
        theirs = re m h.merged h.packages;
        packages = re m h.merged h.packages;
        merge = (merge-again-theirs h.placed (lists-lockfiles all m h one) h.merged h.merge).merge;
      }
