use Rattle.std.proofs.Common.{◌≡◌, take}
use Rattle.std.specs.Prelude.{not}
use Rattle.std.specs.List.{filter}
use Rattle.cargo_lock_diff.specs.Difference.{referred_pairs}
use Rattle.cargo_lock_diff.specs.Stranger.{is_strange_pair}
use Rattle.cargo_lock_diff.proofs.stranger.part.Given as goal

abbrev pub invariant-loop-pair : goal.invariant-loop-pair
invariant-loop-pair l =
    (referred_pairs l.strange.items ≡ filter (is_strange_pair l.accepted l.residents) (referred_pairs (take l.pair-index l.pair-items)))
    × (referred_pairs l.usual.items ≡ filter (λ q. not (is_strange_pair l.accepted l.residents q)) (referred_pairs (take l.pair-index l.pair-items)))
