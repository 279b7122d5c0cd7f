-- A place that is put into a group.
use Rattle.std.proofs.Common.{◌≡◌, ◌<◌, ◌++◌, ◌∷◌, [], ◌∙◌, ℕ, List, Vec, Some, ap, arith, get_or, length, map, option_map, refl, set, slice_get, slice_set, subst}
use Rattle.std.specs.declared.cmp.Ordering.{Ordering}
use Rattle.std.proofs.lemmas.List.{length-map, map-set}
use Rattle.std.proofs.lemmas.Option.{slice_get-map, slice_get_read}
use Rattle.lists.specs.Groups.{GroupedData, HasPutByKey, group_number}

-- the key has a number
pub put-grown : {K : Type 0} (cmp : K → K → Ordering) (old seen new : GroupedData K) (key : K) (place n : ℕ) (places : List ℕ)
    → seen ≡ old → group_number cmp seen key ≡ Some n → slice_get seen.groups n ≡ Some places
    → new.groups ≡ slice_set seen.groups n (places ++ place ∷ []) → new.numbers ≡ seen.numbers
    → HasPutByKey cmp old new key place
put-grown cmp old seen new key place n places is number at groups numbers =
    subst (λ s. HasPutByKey cmp s new key place) is
    (rw number record { places = places; at = at; groups = groups; numbers = numbers })

-- the places of the group with a number
pub places-at : {Z : Type 0} (groups : List (Vec ℕ Z)) (n : ℕ) (group : Vec ℕ Z) → n < length (map (λ (v : Vec ℕ Z). v.items) groups) → group ≡ get_or groups n group
    → slice_get (map (λ (v : Vec ℕ Z). v.items) groups) n ≡ Some group.items
places-at {Z} groups n group low is =
    let items : Vec ℕ Z → List ℕ = λ (v : Vec ℕ Z). v.items in
    let count = length-map groups items in
    slice_get-map items groups n ∙ ap (option_map items) (slice_get_read groups (length groups) n group refl (omega (arith, low, count)) is)

-- a group takes more places
pub groups-set : {Z : Type 0} (groups : List (Vec ℕ Z)) (n : ℕ) (group : Vec ℕ Z) (places : List ℕ) → group.items ≡ places
    → map (λ (v : Vec ℕ Z). v.items) (set groups n group) ≡ set (map (λ (v : Vec ℕ Z). v.items) groups) n places
groups-set {Z} groups n group places is = map-set (λ (v : Vec ℕ Z). v.items) groups n group ∙ ap (set (map (λ (v : Vec ℕ Z). v.items) groups) n) is
