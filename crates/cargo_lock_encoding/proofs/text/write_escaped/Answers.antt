use Rattle.std.proofs.Common.{ap, rules, ◌∙◌}
use Rattle.cargo_lock_encoding.proofs.EscapedTexts.{displays-escaped}
use Rattle.cargo_lock_encoding.proofs.text.write_escaped.Goals as goal

pub returns : goal.returns
returns g c =
    let given = c.new-formatter.ensures.writer in
    displays-escaped (g.T.Display.output c.args.value.now) c.args.out.now _ c.new-formatter.result _ c.into_inner-inner.result c.write-result.result
    c.new-formatter.ensures.plain (ap (λ s. s.out.now) given) c.into_inner-inner.ensures
    (λ same. let name = same ∙ ap (λ s. s.out.ghost_name) given in search rules)
    c.write-result.ensures.writes
