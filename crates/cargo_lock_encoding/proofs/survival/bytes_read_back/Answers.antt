use Rattle.std.proofs.Common.{◌≡◌, length, arith, rules}
use Rattle.cargo_lock_encoding.proofs.survival.bytes_read_back.Goals as goal

pub returns : goal.returns
returns c =
    let long : length c.args.digest.now ≡ 32 = search rules in
    c.checksums_read_back.ensures c.args.digest.now long (λ i. omega (arith, c.fits-digest i))
