use Rattle.std.proofs.Common.{◌≡◌, take, All}
use Rattle.std.specs.List.{filter}
use Rattle.cargo_lock_diff.specs.Difference.{referred_packages, referred_pairs}
use Rattle.cargo_lock_diff.specs.Matching.{seconds}
use Rattle.cargo_lock_diff.specs.Stranger.{IsNamesake, is_stranger}
use Rattle.cargo_lock_diff.proofs.stranger.came.Given as goal

abbrev pub invariant-loop-new : goal.invariant-loop-new
invariant-loop-new l = All (IsNamesake l.residents) (referred_pairs l.all.items)
    × (seconds (referred_pairs l.all.items) ≡ filter (is_stranger l.accepted l.residents) (referred_packages (take l.new-index l.new-items)))
