use Rattle.std.proofs.Common.{refl}
use Rattle.cargo_lock_merge_core.specs.declared.numbers.Spot.{Spot}
use Rattle.cargo_lock_merge_core.proofs.Numbering.{located-place}
use Rattle.cargo_lock_merge_core.proofs.numbers.spot_of.Goals as goal

pub returns-clause-place : goal.returns-clause-place
returns-clause-place c =
    let spot : Spot = record { «package» = c.args.«package»; located = c.in_ok-located.located } in
    λ all are. located-place all spot c.args.«package».now refl (c.in_ok-located.ensures.ok all are)
