use Rattle.std.proofs.lemmas.Str.{IsUtf8-from_ascii}
use Rattle.hex.specs.Hex.{lower_digits}
use Rattle.hex.proofs.HexLemmas.{IsAscii-encode_with}
use Rattle.cargo_lock_parts.proofs.Ascii.{IsAscii-lower_digits}
use Rattle.cargo_lock_parts.proofs.package.checksum.ChecksumSerialize.serialize.Goals as goal

pub unreachable-requires : goal.unreachable-requires
unreachable-requires g c =
    let ascii = IsAscii-encode_with lower_digits c.as_slice.result.now IsAscii-lower_digits in
    c.in-Err-from_utf8.ensures.cases.0 (rw c.in-Ok.ensures.written (IsUtf8-from_ascii _ ascii))
