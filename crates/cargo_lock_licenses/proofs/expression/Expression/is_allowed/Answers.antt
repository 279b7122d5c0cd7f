use Rattle.std.proofs.Common.{◌∙◌, ap, map, string_bytes}
use Rattle.cargo_lock_licenses.specs.Evaluation.{evaluated}
use Rattle.cargo_lock_licenses.specs.Reading.{tokens_of}
use Rattle.cargo_lock_licenses.specs.Tokens.{token_of}
use Rattle.cargo_lock_licenses.proofs.Readings.{allowed-is}
use Rattle.cargo_lock_licenses.proofs.expression.Expression.is_allowed.Goals as goal

pub returns : goal.returns
returns c = allowed-is (map string_bytes c.args.allowed.now) (tokens_of c.args.self.now) c.in_ok-value.value c.unwrap_or.result
    (c.in_ok-value.ensures ∙ ap (λ ts. evaluated (map string_bytes c.args.allowed.now) (map token_of ts)) c.deref.ensures.value) c.unwrap_or.ensures
