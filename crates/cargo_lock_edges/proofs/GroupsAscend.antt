-- The places of each group ascend, since packages are put into groups in their order.
use Rattle.std.proofs.Common.{◌≡◌, ◌≤◌, ◌++◌, ◌∷◌, ◌∙◌, [], ℕ, List, Option, None, Some, ap, arith, get_or, inl, inr, refl, slice_get, subst, sym, unwrap_or}
use Rattle.std.specs.List.{AllPairs}
use Rattle.std.proofs.lemmas.Bool.{cases_eq}
use Rattle.std.proofs.lemmas.List.Elements.{Contains-get_or, Contains-push_cases}
use Rattle.std.proofs.lemmas.List.Quantifiers.{all_pairs_push}
use Rattle.std.proofs.lemmas.Option.{same_Some, slice_get_within}
use Rattle.lists.specs.Groups.{GroupedData, HasPutByKey}
use Rattle.lists.proofs.Groupings.{put-cases}
use Rattle.lists.proofs.Members.{get-push, none-in, slice_get-set_other, slice_get-set_same}
use Rattle.cargo_lock_edges.specs.Group.{Group, group_cmp}
use Rattle.cargo_lock_edges.specs.Groups.{AscendTo, DoAscendTo}

-- one more place, which none is past
one-more : (place : ℕ) (places : List ℕ) → DoAscendTo place places
    → DoAscendTo place (places ++ place ∷ [])
one-more place places up = record {
  order = all_pairs_push (λ a b. a ≤ b) places place up.order
      (λ k d low. up.within (get_or places k d) (Contains-get_or places k d low));
  within = λ k h. elim (Contains-push_cases places place k h) [
    | inl before ↦ up.within k before
    | inr here ↦ omega (arith, here)
  ];
}

alone : (place : ℕ) → DoAscendTo place (place ∷ [])
alone place = one-more place [] record {
  order = λ i j d lt low. absurd (omega (arith, low));
  within = λ k h. absurd (none-in k h);
}

-- the place is put into the group of a key, or begins it
pub ascend-put : (old new : GroupedData Group) (g : Group) (place : ℕ)
    → HasPutByKey group_cmp old new g place → AscendTo place old → AscendTo place new
ascend-put old new g place put up n places at = elim (put-cases group_cmp old new g place put) [
  | inl (bare, begun) ↦ elim (get-push old.groups (place ∷ []) places n
      (ap (λ (gs : List (List ℕ)). slice_get gs n) (sym begun.groups) ∙ at)) [
        | inl before ↦ up n places before
        | inr last ↦ subst (DoAscendTo place) last.1 (alone place)
      ]
  | inr (m, is, grown) ↦
      let longer : List ℕ = grown.places ++ place ∷ [] in
      elim (cases_eq n m) [
        | inl same ↦
            let there : slice_get new.groups m ≡ Some places =
            subst (λ i. slice_get new.groups i ≡ Some places) same at in
            let set-there = slice_get-set_same old.groups m longer
            (slice_get_within old.groups m grown.places grown.at) in
            let one : longer ≡ places = same_Some longer places (sym set-there
            ∙ ap (λ (gs : List (List ℕ)). slice_get gs m) (sym grown.groups) ∙ there) in
            subst (DoAscendTo place) one (one-more place grown.places (up m grown.places grown.at))
        | inr other ↦ up n places (sym (slice_get-set_other old.groups m n longer other)
            ∙ ap (λ (gs : List (List ℕ)). slice_get gs n) (sym grown.groups) ∙ at)
      ]
]

pub ascend-past : (s : GroupedData Group) (place bound : ℕ) → place ≤ bound → AscendTo place s
    → AscendTo bound s
ascend-past s place bound low up n places at =
    let mine = up n places at in
    record {
      order = mine.order;
      within = λ k h. let within = mine.within k h in omega (arith, low, within);
    }

pub ascend-none : (s : GroupedData Group) → s.groups ≡ [] → AscendTo 0 s
ascend-none s bare n places at =
    let none = subst (λ (gs : List (List ℕ)). slice_get gs n ≡ Some places) bare at in
    absurd (cc none)

-- the places of the group with a number
pub ascending-places : (s : GroupedData Group) (bound number : ℕ) → AscendTo bound s
    → AllPairs (λ a b. a ≤ b) (unwrap_or (slice_get s.groups number) [])
ascending-places s bound number up = go (slice_get s.groups number) (up number)
  where
    go : (o : Option (List ℕ)) → ((places : List ℕ) → o ≡ Some places → DoAscendTo bound places)
        → AllPairs (λ a b. a ≤ b) (unwrap_or o [])
    go None all = λ i j d lt low. absurd (omega (arith, low))
    go (Some places) all = (all places refl).order
