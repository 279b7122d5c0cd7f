use Rattle.std.proofs.Common.{ap}
use Rattle.std.specs.Result.{result_ok}
use Rattle.hex.proofs.HexLemmas.{decode_sized-encode_lower}
use Rattle.cargo_lock_parts.specs.Checksum.{digest_in}
use Rattle.cargo_lock_parts.proofs.laws.checksums_read_back.Goals as goal

pub returns : goal.returns
unfolding digest_in
returns c = λ digest long bytes. ap result_ok (decode_sized-encode_lower digest 32 long bytes)
