use Rattle.std.proofs.Common.{map, take}
use Rattle.std.specs.Fmt.{HasWritten, IsPlainFormatter}
use Rattle.cargo_lock_licenses.specs.Printed.{printed}
use Rattle.cargo_lock_licenses.specs.Tokens.{token_of}
use Rattle.cargo_lock_licenses.proofs.expression.ExpressionDisplay.fmt.Given as goal

-- the tokens so far are written
abbrev pub invariant-loop-token : goal.invariant-loop-token
invariant-loop-token g l = IsPlainFormatter l.initial.f → HasWritten g.W.Write.write_str_gives l.initial.f
    (printed (map token_of (take l.token-index l.token-items))) l.f
