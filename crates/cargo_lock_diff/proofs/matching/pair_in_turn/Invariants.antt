use Rattle.std.proofs.Common.{map, take}
use Rattle.cargo_lock_diff.specs.Matching.{IsSublist, is_alike_at}
use Rattle.cargo_lock_diff.specs.Pairing.{ArePairedInTurn}
use Rattle.cargo_lock_diff.proofs.matching.pair_in_turn.Given as goal

abbrev pub invariant-loop-likeness : goal.invariant-loop-likeness
invariant-loop-likeness l = (ArePairedInTurn (map is_alike_at (take l.likeness-index l.likenesses)) l.fn.olds.items l.fn.news.items
    (map (λ pairs. pairs.items) l.passes.items) l.old.items l.new.items)
    × IsSublist l.old.items l.fn.olds.items × IsSublist l.new.items l.fn.news.items
