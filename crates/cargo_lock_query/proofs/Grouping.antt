-- The packages of each name that several have, by the groups of all names.
use Rattle.std.proofs.Common.{◌≡◌, ◌<◌, ◌+◌, inl, inr, ℕ, Bool, true, false, cond, List, [], ◌∷◌, length, get_or, ltb, map, slice_get, Global, Vec, Option, Some, None, refl, sym, ap, subst, ◌∙◌, arith}
use Rattle.std.specs.Borrow.{Bor}
use Rattle.std.specs.List.{Contains, filter}
use Rattle.std.specs.Cmp.{IsTotalOrder, on_total}
use Rattle.std.specs.Cmp.Lexicographic.{nat_list_cmp_total, slice_cmp}
use Rattle.std.specs.Ordering.{is_eq, nat_cmp}
use Rattle.std.specs.declared.cmp.Ordering.TheVariants.{Equal}
use Rattle.std.proofs.lemmas.Bool.{lt-ltb, ltb-true}
use Rattle.std.proofs.lemmas.Cmp.{tied_itself}
use Rattle.std.proofs.lemmas.List.Elements.{Contains-get_or}
use Rattle.std.proofs.lemmas.List.Kept.{AllPairs-filter}
use Rattle.std.proofs.lemmas.Map.Text.{is_eq-slice_cmp}
use Rattle.std.proofs.lemmas.Option.{slice_get_within}
use Rattle.std.proofs.lemmas.Slice.Eq.{bytes_eq-Decides}
use Rattle.cargo_lock_parts.specs.Identity.{PackageData}
use Rattle.lists.specs.Groups.{AreGroups, AreKeys, GroupedData, HasPutByKey, group_number}
use Rattle.lists.specs.Places.{IsPlaces}
use Rattle.lists.proofs.Groupings.{groups-put}
use Rattle.lists.proofs.Members.{contains-cases, got-in, in-got, in-kept, kept-in, none-in, same-at}
use Rattle.cargo_lock_query.specs.Duplicates.{AreDuplicates, HasNameAt, IsGroup, IsRepeatedName}
use Rattle.cargo_lock_query.specs.Groups.{IsNamedBy, name_cmp}

-- ---- names

name-total : IsTotalOrder name_cmp
name-total = on_total (λ (b : Bor (List ℕ)). b.now) nat_list_cmp_total

-- names that compare as equal are one
same-name : (a b : Bor (List ℕ)) → name_cmp a b ≡ Equal → a.now ≡ b.now
same-name a b h = (bytes_eq-Decides a.now b.now).0 (sym (is_eq-slice_cmp a.now b.now) ∙ ap is_eq h)

-- a package has one name
pub name-keys : (packages : List PackageData) → AreKeys name_cmp (IsNamedBy packages)
name-keys packages = record {
  one = λ place a b h g.
      let names : a.now ≡ b.now = sym h.2 ∙ ap (λ (p : PackageData). p.name) (same-at packages place h.0 g.0 h.1 g.1) ∙ g.2 in
      subst (λ (name : List ℕ). slice_cmp nat_cmp a.now name ≡ Equal) names (tied_itself nat_list_cmp_total a.now);
  same = λ place a b tied h. (h.0, h.1, h.2 ∙ same-name a b tied);
}

-- the package at the place is put by its name
pub name-put : (packages : List PackageData) (place : ℕ) (p : PackageData) (name : Bor (List ℕ)) (old new : GroupedData (Bor (List ℕ)))
    → slice_get packages place ≡ Some p → p.name ≡ name.now → HasPutByKey name_cmp old new name place
    → AreGroups name_cmp (IsNamedBy packages) place old → AreGroups name_cmp (IsNamedBy packages) (place + 1) new
name-put packages place p name old new at is put h = groups-put name_cmp (IsNamedBy packages) place name old new name-total (name-keys packages) (p, at, is) put h

-- ---- the whole

-- the groups of two or more
abbrev pub is_several : List ℕ → Bool
is_several places = ltb 1 (length places)

-- a list that contains two numbers has two elements or more
two-in : (places : List ℕ) (j k : ℕ) → j < k → Contains places j → Contains places k → 1 < length places
two-in [] j k lt h g = absurd (none-in j h)
two-in (n ∷ []) j k lt h g = elim (contains-cases n [] j h) [
  | inl here ↦ elim (contains-cases n [] k g) [
    | inl also ↦ absurd (omega (arith, lt, here, also))
    | inr there ↦ absurd (none-in k there)
  ]
  | inr there ↦ absurd (none-in j there)
]
two-in (n ∷ m ∷ places) j k lt h g = omega arith

-- each group is that of a name
group-of : (packages : List PackageData) (g : GroupedData (Bor (List ℕ))) → AreGroups name_cmp (IsNamedBy packages) (length packages) g
    → (places : List ℕ) → Contains g.groups places → (name : List ℕ) × IsPlaces (HasNameAt packages name) (length packages) places
group-of packages g h places among =
    let (k, at) = in-got g.groups places among in
    let (name, number) = h.named k places at in
    let (mine, here, some, are) = h.found name k number in
    (name.now, subst (IsPlaces (HasNameAt packages name.now) (length packages)) (same-at g.groups k mine places here at) are)

pub group-all : (packages : List PackageData) (g : GroupedData (Bor (List ℕ))) → AreGroups name_cmp (IsNamedBy packages) (length packages) g
    → AreDuplicates packages (filter is_several g.groups)
group-all packages g h = record {
  each = λ k d low.
      let places : List ℕ = get_or (filter is_several g.groups) k d in
      let (among, several) = kept-in is_several g.groups places (Contains-get_or (filter is_several g.groups) k d low) in
      let (name, are) = group-of packages g h places among in
      (name, record { several = ltb-true 1 (length places) several; places_are = are });
  all = λ name repeated. all-in (record { ref_ptr = (0, 0); now = name }) repeated (group_number name_cmp g (record { ref_ptr = (0, 0); now = name })) refl;
  in_order = AllPairs-filter (λ (a b : List ℕ). get_or a 0 0 < get_or b 0 0) is_several g.groups h.in_order;
} where
  all-in : (name : Bor (List ℕ)) → IsRepeatedName packages name.now → (o : Option ℕ) → group_number name_cmp g name ≡ o
      → (places : List ℕ) × Contains (filter is_several g.groups) places × IsGroup packages name.now places
  all-in name (j, k, lt, at_j, at_k) None is = absurd (h.none name is j (slice_get_within packages j at_j.0 at_j.1) at_j)
  all-in name (j, k, lt, at_j, at_k) (Some n) is =
      let (places, at, some, are) = h.found name n is in
      let several : 1 < length places = two-in places j k lt
      ((are.listed j).1 (slice_get_within packages j at_j.0 at_j.1, at_j))
      ((are.listed k).1 (slice_get_within packages k at_k.0 at_k.1, at_k)) in
      (places, in-kept is_several g.groups places (got-in g.groups n places at) (lt-ltb 1 (length places) several), record { several = several; places_are = are })

-- a list has as many elements as it says
pub several-kept : (groups : List (Vec ℕ Global)) → map (λ (v : Vec ℕ Global). v.items) (filter (λ (v : Vec ℕ Global). ltb 1 v.len) groups) ≡ filter is_several (map (λ (v : Vec ℕ Global). v.items) groups)
several-kept [] = refl
several-kept (g ∷ groups) = go (ltb 1 g.len) (is_several g.items) (ap (ltb 1) g.ok.0) (several-kept groups) where
  go : (b c : Bool) → b ≡ c
      → map (λ (v : Vec ℕ Global). v.items) (filter (λ (v : Vec ℕ Global). ltb 1 v.len) groups) ≡ filter is_several (map (λ (v : Vec ℕ Global). v.items) groups)
      → map (λ (v : Vec ℕ Global). v.items) (cond b (g ∷ filter (λ (v : Vec ℕ Global). ltb 1 v.len) groups) (filter (λ (v : Vec ℕ Global). ltb 1 v.len) groups))
      ≡ cond c (g.items ∷ filter is_several (map (λ (v : Vec ℕ Global). v.items) groups)) (filter is_several (map (λ (v : Vec ℕ Global). v.items) groups))
  go true true same rest = ap (λ (gs : List (List ℕ)). g.items ∷ gs) rest
  go false false same rest = rest
  go true false same rest = absurd (cc same)
  go false true same rest = absurd (cc same)

-- what is made of the elements in two steps
pub map-twice : {A B C : Type 0} (f : B → C) (h : A → B) (xs : List A) → map (λ x. f (h x)) xs ≡ map f (map h xs)
map-twice f h [] = refl
map-twice {A} {B} {C} f h (x ∷ xs) = ap (λ (zs : List C). f (h x) ∷ zs) (map-twice f h xs)
