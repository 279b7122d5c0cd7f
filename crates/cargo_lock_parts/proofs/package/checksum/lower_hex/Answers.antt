use Rattle.std.proofs.Common.{◌≡◌, length, ap, arith, rules}
use Rattle.std.specs.Result.{result_ok}
use Rattle.hex.specs.Hex.{IsBytes}
use Rattle.hex.proofs.HexLemmas.{decode_sized-encode_lower}
use Rattle.cargo_lock_parts.specs.Checksum.{digest_in}
use Rattle.cargo_lock_parts.proofs.package.checksum.lower_hex.Goals as goal

pub returns-clause-back : goal.returns-clause-back
unfolding digest_in
returns-clause-back c =
    let long : length c.args.digest.now ≡ 32 = search rules in
    let bytes : IsBytes c.args.digest.now = λ i. omega (arith, c.fits-digest i) in
    let same = decode_sized-encode_lower c.args.digest.now 32 long bytes in
    rw (c.in_ok-encode.ensures, c.as_slice.ensures) (ap result_ok same)
