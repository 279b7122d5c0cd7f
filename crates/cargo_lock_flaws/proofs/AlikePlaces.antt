-- How the packages that are alike are found, one package after another.
use Rattle.std.proofs.Common.{◌≡◌, ◌<◌, ◌≤◌, ◌+◌, ◌↔◌, inl, inr, ℕ, Bool, true, false, cond, bytes_eq, List, [], ◌∷◌, ◌++◌, length, get_or, slice_get, Option, None, Some, Vec, refl, sym, ap, subst, ◌∙◌, arith}
use Rattle.std.specs.Borrow.{Bor}
use Rattle.std.specs.Bool.{Decides}
use Rattle.std.specs.BTreeMap.{BTreeMap, get, is_at}
use Rattle.std.specs.List.{Contains}
use Rattle.std.proofs.lemmas.Bool.{cases_eq, cases_order, false≢true}
use Rattle.std.proofs.lemmas.List.Elements.{Contains-append_left, Contains-get_or, Contains-push, Contains-push_cases}
use Rattle.std.proofs.lemmas.List.Quantifiers.{all_pairs_push}
use Rattle.std.proofs.lemmas.Map.Text.{is_eq-slice_cmp}
use Rattle.std.proofs.lemmas.Option.{slice_get_within, same_Some}
use Rattle.std.proofs.lemmas.Slice.Eq.{bytes_eq-Decides}
use Rattle.cargo_lock_parts.specs.Identity.{PackageData}
use Rattle.cargo_lock_graph.specs.Targets.{HoldsOf}
use Rattle.cargo_lock_flaws.specs.declared.alike.Namesakes.{Namesakes}
use Rattle.cargo_lock_flaws.specs.Alike.{AreAlikeAt, AreAlikeOnCratesIo, ArePairsAlike, IsFirstAlike, IsFirstBelow, IsFromCratesIo, folded}
use Rattle.cargo_lock_flaws.specs.Namesakes.{AreNamesakes, ArePairsBelow, AreSeen, HasSeen, IsNamedOtherwise, IsNamedThere, earlier_alike, folded_name_cmp, next_other, with_place}

-- ---- the first place

-- one more place, at which P does not hold
pub first-same : (P : ℕ → Type 0) (n : ℕ) (o : Option ℕ) → IsFirstBelow P n o → ¬ P n → IsFirstBelow P (n + 1) o
first-same P n None h miss = λ k low p. elim (cases_eq k n) [
  | inl here ↦ miss (subst P here p)
  | inr other ↦ h k (omega (arith, low, other)) p
]
first-same P n (Some place) h miss = ((let below = h.0 in omega (arith, below)), h.1, h.2)

-- one more place, after the first one
pub first-kept : (P : ℕ → Type 0) (n place : ℕ) → IsFirstBelow P n (Some place) → IsFirstBelow P (n + 1) (Some place)
first-kept P n place h = ((let below = h.0 in omega (arith, below)), h.1, h.2)

-- one more place, which is the first one
pub first-new : (P : ℕ → Type 0) (n : ℕ) → IsFirstBelow P n None → P n → IsFirstBelow P (n + 1) (Some n)
first-new P n none here = (omega arith, here, none)

-- there is one first place
pub first-one : (P : ℕ → Type 0) (n m i j : ℕ) → IsFirstBelow P n (Some i) → IsFirstBelow P m (Some j) → i ≡ j
first-one P n m i j a b = elim (cases_order i j) [
  | inl same ↦ same
  | inr (inl low) ↦ absurd (b.2 i low a.1)
  | inr (inr high) ↦ absurd (a.2 j high b.1)
]

-- the same places of another name
pub first-alike : (P Q : ℕ → Type 0) (n : ℕ) (o : Option ℕ) → ((k : ℕ) → P k ↔ Q k) → IsFirstBelow P n o → IsFirstBelow Q n o
first-alike P Q n None same h = λ k low q. h k low ((same k).1 q)
first-alike P Q n (Some i) same h = (h.0, (same i).0 h.1, λ k low q. h.2 k low ((same k).1 q))

-- ---- namesakes

-- a package that has another name there
pub namesakes-same : (packages : List PackageData) (place : ℕ) (key : List ℕ) (o : Option Namesakes) → ¬ HoldsOf (IsNamedThere key) packages place
    → AreNamesakes packages place key o → AreNamesakes packages (place + 1) key o
namesakes-same packages place key None miss are = first-same (HoldsOf (IsNamedThere key) packages) place None are miss
namesakes-same packages place key (Some n) miss are = (
  first-same (HoldsOf (IsNamedThere key) packages) place (Some n.first) are.0 miss,
  are.1,
  first-same (HoldsOf (IsNamedOtherwise key n.name.now) packages) place n.other are.2 (λ h. miss (h.0, h.1, h.2.there)),
)

-- what holds of the package at a place
here : (P : PackageData → Type 0) (packages : List PackageData) (place : ℕ) (p : PackageData) → slice_get packages place ≡ Some p → HoldsOf P packages place → P p
here P packages place p at h = subst P (same_Some h.0 p (sym h.1 ∙ at)) h.2

-- one more package that has this name there
pub namesakes-more : (packages : List PackageData) (place : ℕ) (p : PackageData) (name : Bor (List ℕ)) (o : Option Namesakes)
    → slice_get packages place ≡ Some p → IsFromCratesIo p → p.name ≡ name.now
    → AreNamesakes packages place (folded name.now) o → AreNamesakes packages (place + 1) (folded name.now) (Some (with_place o place name))
namesakes-more packages place p name None at from is are =
    let there : IsNamedThere (folded name.now) p = record { from = from; same = ap folded is } in (
      first-new (HoldsOf (IsNamedThere (folded name.now)) packages) place are (p, at, there),
      (p, at, is),
      λ k low h. elim (cases_eq k place) [
        | inl same ↦ (here (IsNamedOtherwise (folded name.now) name.now) packages place p at (subst (HoldsOf (IsNamedOtherwise (folded name.now) name.now) packages) same h)).differ is
        | inr other ↦ are k (omega (arith, low, other)) (h.0, h.1, h.2.there)
      ],
    )
namesakes-more packages place p name (Some n) at from is are = (
  first-kept (HoldsOf (IsNamedThere (folded name.now)) packages) place n.first are.0,
  are.1,
  others (bytes_eq n.name.now name.now) n.other (bytes_eq-Decides n.name.now name.now) are.2,
)
  where
    Others : ℕ → Type 0
    Others = HoldsOf (IsNamedOtherwise (folded name.now) n.name.now) packages

    others : (same : Bool) (o : Option ℕ) → Decides same (n.name.now ≡ name.now) → IsFirstBelow Others place o → IsFirstBelow Others (place + 1) (next_other o place same)
    others true o tells so_far =
        first-same Others place o so_far (λ h. (here (IsNamedOtherwise (folded name.now) n.name.now) packages place p at h).differ (is ∙ sym (tells.0 refl)))
    others false (Some k) tells so_far = first-kept Others place k so_far
    others false None tells so_far =
        first-new Others place so_far (
          p,
          at,
          record {
            there = record { from = from; same = ap folded is };
            differ = λ e. false≢true (tells.1 (sym e ∙ is));
          },
        )

-- ---- the first place of a package that is alike

named-alike : (packages : List PackageData) (place : ℕ) (p : PackageData) (name : List ℕ) → slice_get packages place ≡ Some p → IsFromCratesIo p → p.name ≡ name
    → (k : ℕ) → HoldsOf (IsNamedOtherwise (folded name) name) packages k ↔ AreAlikeAt packages k place
named-alike packages place p name at from is k = (
  λ h. (p, at, (h.0, h.1, record { from = h.2.there.from; other_from = from; same = h.2.there.same ∙ ap folded (sym is); differ = λ e. h.2.differ (e ∙ is) })),
  λ h.
      let earlier = here (λ q. HoldsOf (λ x. AreAlikeOnCratesIo x q) packages k) packages place p at h in
      let alike = earlier.2 in
      (earlier.0, earlier.1, record { there = record { from = alike.from; same = alike.same ∙ ap folded is }; differ = λ e. alike.differ (e ∙ sym is) }),
)

pub first-found : (packages : List PackageData) (place : ℕ) (p : PackageData) (name : List ℕ) (o : Option Namesakes)
    → slice_get packages place ≡ Some p → IsFromCratesIo p → p.name ≡ name
    → AreNamesakes packages place (folded name) o → IsFirstBelow (λ k. AreAlikeAt packages k place) place (earlier_alike o name)
first-found packages place p name o at from is are =
    first-alike (HoldsOf (IsNamedOtherwise (folded name) name) packages) (λ k. AreAlikeAt packages k place) place (earlier_alike o name)
    (named-alike packages place p name at from is) (found o are)
  where
    found : (o : Option Namesakes) → AreNamesakes packages place (folded name) o → IsFirstBelow (HoldsOf (IsNamedOtherwise (folded name) name) packages) place (earlier_alike o name)
    found None are = λ k low h. are k low (h.0, h.1, h.2.there)
    found (Some n) are = go (bytes_eq n.name.now name) (bytes_eq-Decides n.name.now name)
      where
        go : (same : Bool) → Decides same (n.name.now ≡ name)
            → IsFirstBelow (HoldsOf (IsNamedOtherwise (folded name) name) packages) place (cond same n.other (Some n.first))
        go true tells = subst (λ x. IsFirstBelow (HoldsOf (IsNamedOtherwise (folded name) x) packages) place n.other) (tells.0 refl) are.2
        go false tells =
            let first = are.0 in
            let there = first.1 in
            let own = are.1 in (
              first.0,
              (
                there.0,
                there.1,
                record {
                  there = there.2;
                  differ = λ e. false≢true (tells.1 (sym (here (λ q. q.name ≡ n.name.now) packages n.first there.0 there.1 own) ∙ e));
                },
              ),
              λ k low h. first.2 k low (h.0, h.1, h.2.there),
            )

-- ---- one package after another

same-key : {Z : Type 0} (a b : Vec ℕ Z) → Decides (is_at (folded_name_cmp a) b) (a.items ≡ b.items)
same-key a b =
    let tells = bytes_eq-Decides a.items b.items in
    let is = is_eq-slice_cmp a.items b.items in
    (λ h. tells.0 (sym is ∙ h), λ e. is ∙ tells.1 e)

pub seen-more : {Z : Type 0} (packages : List PackageData) (place : ℕ) (p : PackageData) (name : Bor (List ℕ)) (found : Option ℕ) (old new : BTreeMap (Vec ℕ Z) Namesakes)
    → slice_get packages place ≡ Some p → IsFromCratesIo p → p.name ≡ name.now → HasSeen old new place name found
    → AreSeen packages place old → AreSeen packages (place + 1) new
seen-more {Z} packages place p name found old new at from is has are q =
    subst (AreNamesakes packages (place + 1) q.items) (sym (has.updates q)) (go (is_at (folded_name_cmp has.key) q) (same-key has.key q))
  where
    go : (same : Bool) → Decides same (has.key.items ≡ q.items)
        → AreNamesakes packages (place + 1) q.items (cond same (Some (with_place (get folded_name_cmp old has.key) place name)) (get folded_name_cmp old q))
    go true tells =
        subst (λ key. AreNamesakes packages (place + 1) key (Some (with_place (get folded_name_cmp old has.key) place name))) (sym has.folded ∙ tells.0 refl)
        (namesakes-more packages place p name (get folded_name_cmp old has.key) at from is
        (subst (λ key. AreNamesakes packages place key (get folded_name_cmp old has.key)) has.folded (are has.key)))
    go false tells =
        namesakes-same packages place q.items (get folded_name_cmp old q)
        (λ h. false≢true (tells.1 (has.folded ∙ sym (ap folded is) ∙ (here (IsNamedThere q.items) packages place p at h).same))) (are q)

pub seen-same : {Z : Type 0} (packages : List PackageData) (place : ℕ) (p : PackageData) (seen : BTreeMap (Vec ℕ Z) Namesakes)
    → slice_get packages place ≡ Some p → ¬ IsFromCratesIo p → AreSeen packages place seen → AreSeen packages (place + 1) seen
seen-same packages place p seen at other are q =
    namesakes-same packages place q.items (get folded_name_cmp seen q) (λ h. other (here (IsNamedThere q.items) packages place p at h).from) (are q)

pub first-seen : {Z : Type 0} (packages : List PackageData) (place : ℕ) (p : PackageData) (name : Bor (List ℕ)) (found : Option ℕ) (old new : BTreeMap (Vec ℕ Z) Namesakes)
    → slice_get packages place ≡ Some p → IsFromCratesIo p → p.name ≡ name.now → HasSeen old new place name found
    → AreSeen packages place old → IsFirstBelow (λ k. AreAlikeAt packages k place) place found
first-seen packages place p name found old new at from is has are =
    subst (IsFirstBelow (λ k. AreAlikeAt packages k place) place) (sym has.earlier)
    (first-found packages place p name.now (get folded_name_cmp old has.key) at from is
    (subst (λ key. AreNamesakes packages place key (get folded_name_cmp old has.key)) has.folded (are has.key)))

pub none-found : (P : ℕ → Type 0) (n : ℕ) → IsFirstBelow P n None → (i : ℕ) → ¬ IsFirstBelow P n (Some i)
none-found P n none i h = none i h.0 h.1

pub none-alike : (packages : List PackageData) (place : ℕ) (p : PackageData) → slice_get packages place ≡ Some p → ¬ IsFromCratesIo p
    → (i : ℕ) → ¬ IsFirstAlike packages i place
none-alike packages place p at other i h =
    let alike = here (λ q. HoldsOf (λ x. AreAlikeOnCratesIo x q) packages i) packages place p at h.1 in
    other alike.2.other_from

-- ---- the pairs

pub pairs-put : (packages : List PackageData) (place i : ℕ) (pairs grown : List (ℕ × ℕ)) → IsFirstAlike packages i place → grown ≡ pairs ++ (i, place) ∷ []
    → ArePairsBelow packages place pairs → ArePairsBelow packages (place + 1) grown
pairs-put packages place i pairs grown first grows are =
    rw grows record {
      ascending = all_pairs_push (λ (x y : ℕ × ℕ). x.1 < y.1) pairs (i, place) are.ascending (λ k d low.
          let one : ℕ × ℕ = get_or pairs k d in
          ((are.told one.0 one.1).0 (Contains-get_or pairs k d low)).0);
      told = λ k j. (
        λ h. elim (Contains-push_cases pairs (i, place) (k, j) h) [
          | inl old ↦ let (below, is) = (are.told k j).0 old in (omega (arith, below), is)
          | inr same ↦
              let one : i ≡ k = ap (λ (q : ℕ × ℕ). q.0) same in
              let two : place ≡ j = ap (λ (q : ℕ × ℕ). q.1) same in
              (omega (arith, two), subst (λ n. IsFirstAlike packages n j) one (subst (λ n. IsFirstAlike packages i n) two first))
        ],
        λ h. let low = h.0 in elim (cases_eq j place) [
          | inl same ↦
              let one : i ≡ k = first-one (λ n. AreAlikeAt packages n place) place place i k first (subst (λ n. IsFirstAlike packages k n) same h.1) in
              subst (λ (q : ℕ × ℕ). Contains (pairs ++ (i, place) ∷ []) q) (λ n. (one n, sym same n)) (Contains-push pairs (i, place))
          | inr other ↦ Contains-append_left pairs ((i, place) ∷ []) (k, j) ((are.told k j).1 (omega (arith, low, other), h.1))
        ],
      );
    }

pub pairs-pass : (packages : List PackageData) (place : ℕ) (pairs : List (ℕ × ℕ)) → ((i : ℕ) → ¬ IsFirstAlike packages i place)
    → ArePairsBelow packages place pairs → ArePairsBelow packages (place + 1) pairs
pairs-pass packages place pairs none are = record {
  ascending = are.ascending;
  told = λ k j. (
    λ h. let (below, is) = (are.told k j).0 h in (omega (arith, below), is),
    λ h. let low = h.0 in elim (cases_eq j place) [
      | inl same ↦ absurd (none k (subst (λ n. IsFirstAlike packages k n) same h.1))
      | inr other ↦ (are.told k j).1 (omega (arith, low, other), h.1)
    ],
  );
}

pub pairs-none : (packages : List PackageData) → ArePairsBelow packages 0 []
pairs-none packages = record {
  ascending = λ i j d low high. absurd (omega (arith, low, high));
  told = λ k j. (
    λ h. let low = h.1 in absurd (omega (arith, low)),
    λ h. let low = h.0 in absurd (omega (arith, low)),
  );
}

pub pairs-all : (packages : List PackageData) (place : ℕ) (pairs : List (ℕ × ℕ)) → length packages ≤ place → ArePairsBelow packages place pairs → ArePairsAlike packages pairs
pairs-all packages place pairs past are = record {
  ascending = are.ascending;
  told = λ k j. (
    λ h. ((are.told k j).0 h).1,
    λ h.
        let there = h.1 in
        let low = slice_get_within packages j there.0 there.1 in
        (are.told k j).1 (omega (arith, low, past), h),
  );
}
