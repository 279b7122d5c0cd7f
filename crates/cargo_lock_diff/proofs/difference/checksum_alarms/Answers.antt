use Rattle.cargo_lock_diff.specs.Difference.{referred_packages, referred_pairs}
use Rattle.cargo_lock_diff.proofs.Vouched.{alarms-among, vouched-pairs}
use Rattle.cargo_lock_diff.proofs.difference.checksum_alarms.Goals as goal

pub alarms-requires : goal.alarms-requires
alarms-requires c = record {
  named = c.requires.named;
  vouched = vouched-pairs (referred_packages c.args.old.now.items) c.in_ok-vouchers.vouchers
      c.in_ok-vouchers.ensures (referred_pairs c.args.pairing.now.pairs.items) c.requires.among;
}

pub returns : goal.returns
returns c =
    alarms-among (referred_packages c.args.old.now.items) c.in_ok-vouchers.vouchers c.in_ok-vouchers.ensures
    (referred_pairs c.args.pairing.now.pairs.items) (referred_packages c.args.pairing.now.added.items)
    (referred_pairs c.in_ok-alarms.alarms.items) c.in_ok-alarms.ensures
