use Rattle.std.proofs.Common.{sym, arith, ◌∙◌}
use Rattle.cargo_lock_lines.proofs.HeldWords.{Between-within, Holds-pair}
use Rattle.cargo_lock_lines.proofs.line.pair.Goals as goal

pub returns : goal.returns
returns c = record {
  holds = Holds-pair c.args.text.now c.in_ok-key.key.now c.in_ok-key.onward.now c.in_ok-value.value.now c.in_ok-value.rest.now (sym c.has_bare_bytes.ensures ∙ c.if-has_bare_bytes.false) c.in_ok-key.ensures c.in_ok-value.ensures;
  shorter = omega (arith, Between-within _ _ _ _ _ c.in_ok-key.ensures, Between-within _ _ _ _ _ c.in_ok-value.ensures);
}
