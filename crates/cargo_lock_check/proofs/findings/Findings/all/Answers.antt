use Rattle.std.proofs.Common.{◌∙◌, List, ap, arith, map}
use Rattle.std.proofs.lemmas.List.{take_all}
use Rattle.cargo_lock_check.specs.Findings.{PlacedFindingData, placed_finding_of}
use Rattle.cargo_lock_check.specs.declared.placed.PlacedFinding.{PlacedFinding}
use Rattle.cargo_lock_check.proofs.findings.Findings.all.Goals as goal

pub returns : goal.returns
returns c = c.loop-one.invariant
    ∙ ap (λ (xs : List PlacedFinding). map (λ (x : PlacedFindingData). x.finding) (map placed_finding_of xs)) (take_all c.loop-one.one-index _ (omega arith) ∙ c.deref-one-items.ensures.value)
    ∙ ap (map (λ (x : PlacedFindingData). x.finding)) c.in_ok-placed.ensures
