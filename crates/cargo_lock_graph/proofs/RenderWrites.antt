-- The parts of a line.
use Rattle.std.proofs.Common.{◌≡◌, ℕ, zero, suc, ◌-◌, ◌<◌, List, [], ◌++◌, sym, ap, ◌∙◌, arith}
use Rattle.std.proofs.lemmas.List.{get_or-map}
use Rattle.std.proofs.lemmas.Option.{get_or_from_slice_get, slice_get_within}
use Rattle.std.specs.Prelude.{Bool, Some, slice_get}
use Rattle.cargo_lock_parts.specs.Identity.{PackageData}
use Rattle.cargo_lock_graph.specs.Labels.{label_at, label_of}
use Rattle.cargo_lock_graph.specs.declared.drawing.entry.Entry.{Entry}
use Rattle.cargo_lock_graph.specs.DrawingByLater.{goes_on, levels_text, prefix_by_later}
use Rattle.cargo_lock_graph.specs.DrawingText.{SymbolTexts, branch_text}

pub prefix_is : (s : SymbolTexts) (depth : ℕ) (later : List Entry) → 0 < depth → prefix_by_later s depth later ≡ levels_text s (depth - 1) later ++ branch_text s (goes_on (depth - 1) later)
prefix_is s zero later lt = absurd (omega arith)
prefix_is s (suc k) later lt = let n : suc k - 1 ≡ k = omega arith in ap (λ (m : ℕ). levels_text s m later ++ branch_text s (goes_on m later)) (sym n)

-- the label of a node is that of its package
pub label_is : (exact : Bool) (packages : List PackageData) (node : ℕ) (p : PackageData) → Some p ≡ slice_get packages node → label_at exact packages node ≡ label_of exact p
label_is exact packages node p is =
    get_or-map (label_of exact) packages node p [] (slice_get_within packages node p (sym is))
    ∙ ap (label_of exact) (get_or_from_slice_get packages node p p (sym is))
