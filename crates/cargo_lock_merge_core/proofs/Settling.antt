-- What is chosen of a row.
use Rattle.std.proofs.Common.{◌≡◌, ◌↔◌, ℕ, Option, Some, None, MatchOption, sym, subst, ◌∙◌}
use Rattle.std.proofs.lemmas.Option.{same_Some}
use Rattle.cargo_lock_merge_core.specs.declared.entry.Chosen.{Chosen}
use Rattle.cargo_lock_merge_core.specs.declared.rows.Row.{Row}
use Rattle.cargo_lock_merge_core.specs.declared.rule3.Side.{Side}
use Rattle.cargo_lock_merge_core.specs.Choices.{IsOfSide, IsReplacement}
use Rattle.cargo_lock_merge_core.specs.Commits.{Lockfiles}
use Rattle.cargo_lock_merge_core.specs.Entries.{HasValues, IsChoiceOf, IsChosenOf, IsReplacementIf, IsSettled}
use Rattle.cargo_lock_merge_core.specs.Numbered.{IsReplacementChoice, data_if, placed_data, side_of}
use Rattle.cargo_lock_merge_core.specs.Placed.{PlacedData}
use Rattle.cargo_lock_merge_core.proofs.Alike.{value-once}
use Rattle.cargo_lock_merge_core.proofs.Staying.{value-apart}

pub settled-by : (all : Lockfiles) (r : Row) (is : Option Side) (side : Side) (x : PlacedData ℕ) (c : Chosen) → is ≡ Some side
    → side_of (data_if r.ours) (data_if r.theirs) side ≡ Some x → placed_data c.«package» ≡ x → HasValues r c → IsChoiceOf all r is → IsSettled all r (Some c)
settled-by all r is side x c e at same values choice =
    let h = subst (λ (s : Option Side). IsChoiceOf all r s) e choice in
    (subst (λ (y : PlacedData ℕ). IsChosenOf all r y) (same_Some h.0 x (sym h.1 ∙ at) ∙ sym same) h.2, values)

pub settled-ok : (all : Lockfiles) (r : Row) (o : Option Chosen) → IsSettled all r o
    → MatchOption o (Unit {0}) (λ c. HasValues r c × IsOfSide (data_if r.ours) (data_if r.theirs) (placed_data c.«package»))
settled-ok all r None h = tt
settled-ok all r (Some c) h = (h.1, h.0.0)

-- the replacement of what is chosen is that of the package of a side
pub replaced-by : (r : Row) (d : Chosen) (side : Side) (x : PlacedData ℕ) (n : ℕ) → d.replacement ≡ Some side → side_of (data_if r.ours) (data_if r.theirs) side ≡ Some x → HasValues r d
    → (x.replacement ≡ Some n) ↔ IsReplacementIf r (Some d) n
replaced-by r d side x n at here has =
    let c : PlacedData ℕ = placed_data d.«package» in
    let (y, there, merged) = subst (λ (w : Option Side). IsReplacementChoice (data_if r.base) (data_if r.ours) (data_if r.theirs) c w) at has.replacement in
    let same : y ≡ x = same_Some y x (sym there ∙ here) in
    let value : IsReplacement (data_if r.base) (data_if r.ours) (data_if r.theirs) c x.replacement =
    subst (λ (z : PlacedData ℕ). IsReplacement (data_if r.base) (data_if r.ours) (data_if r.theirs) c z.replacement) same merged in (
      λ e. subst (IsReplacement (data_if r.base) (data_if r.ours) (data_if r.theirs) c) e value,
      λ k. value-once _ _ _ x.replacement (Some n) value k,
    )

-- where the sides are in conflict about it there is none
pub not-replaced : (r : Row) (d : Chosen) (n : ℕ) → d.replacement ≡ None → HasValues r d → ¬ IsReplacementIf r (Some d) n
not-replaced r d n at has k =
    let c : PlacedData ℕ = placed_data d.«package» in
    let disputed = subst (λ (w : Option Side). IsReplacementChoice (data_if r.base) (data_if r.ours) (data_if r.theirs) c w) at has.replacement in
    value-apart _ _ _ (Some n) k disputed

-- a side whose value is taken has a package
pub not-there : (r : Row) (d : Chosen) (side : Side) → d.replacement ≡ Some side → side_of (data_if r.ours) (data_if r.theirs) side ≡ None → ¬ HasValues r d
not-there r d side at none has =
    let c : PlacedData ℕ = placed_data d.«package» in
    let (y, there, merged) = subst (λ (w : Option Side). IsReplacementChoice (data_if r.base) (data_if r.ours) (data_if r.theirs) c w) at has.replacement in
    let e = sym none ∙ there in absurd (cc e)
