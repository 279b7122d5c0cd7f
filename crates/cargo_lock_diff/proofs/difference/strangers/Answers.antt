use Rattle.cargo_lock_diff.specs.Difference.{referred_packages, referred_pairs}
use Rattle.cargo_lock_diff.proofs.Strange.{strangers-among}
use Rattle.cargo_lock_diff.proofs.difference.strangers.Goals as goal

pub returns : goal.returns
returns c =
    let s = c.in_ok-strangers.strangers in
    strangers-among c.args.accepted.now (referred_packages c.args.old.now.items) c.in_ok-residents.residents c.in_ok-residents.ensures
    (referred_pairs c.args.pairing.now.pairs.items) (referred_packages c.args.pairing.now.added.items)
    (referred_pairs s.strange.items) (referred_pairs s.usual.items) (referred_pairs s.came.items) c.in_ok-strangers.ensures
