-- Places in groups, by a key of each.
use Rattle.std.specs.Prelude.{◌≡◌, ◌<◌, ◌++◌, [], ◌∷◌, ℕ, List, AllPairs, Option, None, Some}
use Rattle.std.specs.Prelude.{IfSome, MatchOption, if◌then◌else◌, length, slice_get, slice_index}
use Rattle.std.specs.Prelude.{slice_set, unwrap_or}
use Rattle.std.specs.BTreeMap.{is_at}
use Rattle.std.specs.Map.{lookup}
use Rattle.std.specs.declared.cmp.Ordering.{Ordering}
use Rattle.std.specs.declared.cmp.Ordering.TheVariants.{Equal}
use Rattle.lists.specs.Places.{IsPlaces}

-- keys with the numbers of their groups, and the places of each group
pub record GroupedData (K : Type 0) : Type 0 where
  pub numbers : List (K × ℕ)
  pub groups : List (List ℕ)

-- the number of the group of the key, if it has one
abbrev pub group_number : {K : Type 0} → (K → K → Ordering) → GroupedData K → K → Option ℕ
group_number cmp grouped key = lookup (is_at (cmp key)) grouped.numbers

-- the places of a group, none where there is no group
abbrev pub places_or_none : List (List ℕ) → Option ℕ → List ℕ
places_or_none groups None = []
places_or_none groups (Some n) = unwrap_or (slice_get groups n) []

-- the places that were put by the key
abbrev pub key_places : {K : Type 0} → (K → K → Ordering) → GroupedData K → K → List ℕ
key_places cmp grouped key = places_or_none grouped.groups (group_number cmp grouped key)

-- each number is that of a group
abbrev pub AreGroupNumbers : {K : Type 0} → (K → K → Ordering) → GroupedData K → Type 0
AreGroupNumbers {K = K} cmp grouped = (key : K) → IfSome (group_number cmp grouped key)
    (λ n. n < length grouped.groups)

-- the place is behind the others of the group with the number, and all else is as before
pub record HasGrown {K : Type 0} (old new : GroupedData K) (n place : ℕ) : Type 0 where
  pub places : List ℕ
  pub at : slice_get old.groups n ≡ Some places
  pub groups : new.groups ≡ slice_set old.groups n (places ++ place ∷ [])
  pub numbers : new.numbers ≡ old.numbers

-- the place alone is a group behind the others, that of the key
pub record HasBegun {K : Type 0} (cmp : K → K → Ordering) (old new : GroupedData K) (key : K)
    (place : ℕ) : Type 0 where
  pub groups : new.groups ≡ old.groups ++ (place ∷ []) ∷ []
  pub numbers : (other : K) → group_number cmp new other
      ≡ (if is_at (cmp key) other then Some (length old.groups) else group_number cmp old other)

-- the place is put into the group of the key, or begins it
abbrev pub HasPutByKey : {K : Type 0} → (K → K → Ordering) → (old new : GroupedData K) → (key : K)
    → (place : ℕ) → Type 0
HasPutByKey cmp old new key place = MatchOption (group_number cmp old key)
    (HasBegun cmp old new key place) (λ n. HasGrown old new n place)

-- ---- the groups of all places below a bound

-- the keys of a place, at which `has` holds, are those that are equal to one of them
pub record AreKeys {K : Type 0} (cmp : K → K → Ordering) (has : ℕ → K → Type 0) : Type 0 where
  pub one : (place : ℕ) (a b : K) → has place a → has place b → cmp a b ≡ Equal
  pub same : (place : ℕ) (a b : K) → cmp a b ≡ Equal → has place a → has place b

-- Each key that a place below the bound has is that of a group, which has exactly the places that
-- have the key, and each group is that of a key. The groups are in the order of their first places.
pub record HaveGrouped {K : Type 0} (has : ℕ → K → Type 0) (bound : ℕ) (number : K → Option ℕ)
    (groups : List (List ℕ)) : Type 0 where
  pub found : (key : K) (n : ℕ) → number key ≡ Some n → (places : List ℕ)
      × (slice_get groups n ≡ Some places) × (0 < length places)
      × IsPlaces (λ k. has k key) bound places
  pub none : (key : K) → number key ≡ None → (k : ℕ) → k < bound → ¬ has k key
  pub named : (n : ℕ) (places : List ℕ) → slice_get groups n ≡ Some places
      → (key : K) × (number key ≡ Some n)
  pub in_order : AllPairs (λ a b. slice_index a 0 < slice_index b 0) groups

-- the groups of the places below the bound, by the keys that they have
abbrev pub AreGroups : {K : Type 0} → (K → K → Ordering) → (ℕ → K → Type 0) → ℕ → GroupedData K
    → Type 0
AreGroups cmp has bound grouped = HaveGrouped has bound (group_number cmp grouped) grouped.groups
