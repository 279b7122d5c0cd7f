-- Marks of a list, and one mark more.
use Rattle.std.proofs.Common.{◌≡◌, ◌<◌, ◌⊎◌, inl, inr, suc, zero, ℕ, Bool, true, false, List, [], ◌∷◌, length, get_or, replicate, set, Some, sym, ap, ◌∙◌, arith}
use Rattle.std.proofs.lemmas.Bool.{cases_eq}
use Rattle.std.proofs.lemmas.List.{get_or-replicate, get_or-set_same, get_or-set_other, length-replicate}
use Rattle.std.proofs.lemmas.Option.{get_or_from_slice_get, slice_get-get_or, slice_get_within}
use Rattle.std.proofs.Math.ListN.{length-set}
use Rattle.lists.specs.Marks.{IsMarked, unmarked_count}

pub none-marked : (count k : ℕ) → ¬ IsMarked (replicate count false) k
none-marked count k h =
    let low = slice_get_within (replicate count false) k true h in
    let long = length-replicate count false in
    let e : false ≡ true = sym (get_or-replicate count k false false (omega (arith, low, long))) ∙ get_or_from_slice_get (replicate count false) k true false h in
    cc e

pub marked-kept : (marks : List Bool) (place k : ℕ) → place < length marks → IsMarked marks k → IsMarked (set marks place true) k
marked-kept marks place k low h =
    let within = slice_get_within marks k true h in
    let long = length-set marks place true in
    slice_get-get_or (set marks place true) k false (omega (arith, within, long)) ∙ ap Some (elim (cases_eq k place) [
      | inl same ↦ ap (λ i. get_or (set marks place true) i false) same ∙ get_or-set_same marks place true false low
      | inr other ↦ get_or-set_other marks place k true false other ∙ get_or_from_slice_get marks k true false h
    ])

pub marked-here : (marks : List Bool) (place : ℕ) → place < length marks → IsMarked (set marks place true) place
marked-here marks place low =
    let long = length-set marks place true in
    slice_get-get_or (set marks place true) place false (omega (arith, low, long)) ∙ ap Some (get_or-set_same marks place true false low)

pub marked-before : (marks : List Bool) (place k : ℕ) → IsMarked (set marks place true) k → IsMarked marks k ⊎ (k ≡ place)
marked-before marks place k h = elim (cases_eq k place) [
  | inl same ↦ inr same
  | inr other ↦
      let within = slice_get_within (set marks place true) k true h in
      let long = length-set marks place true in
      inl (slice_get-get_or marks k false (omega (arith, within, long))
      ∙ ap Some (sym (get_or-set_other marks place k true false other) ∙ get_or_from_slice_get (set marks place true) k true false h))
]

-- one place more has a mark
pub unmarked_count-set : (marks : List Bool) (m : ℕ) → get_or marks m true ≡ false → unmarked_count marks ≡ suc (unmarked_count (set marks m true))
unmarked_count-set [] m h = absurd cc
unmarked_count-set (b ∷ bs) zero h = rw h (omega arith)
unmarked_count-set (b ∷ bs) (suc m) h = omega (arith, unmarked_count-set bs m h)
