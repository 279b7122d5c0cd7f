use Rattle.std.proofs.Common.{ap, rules, ◌∙◌}
use Rattle.cargo_lock_diagram.proofs.Escaping.{displays-escaped}
use Rattle.cargo_lock_diagram.proofs.label.write_escaped.Goals as goal

pub returns : goal.returns
returns g c =
    let given = c.new-g.ensures.writer in
    displays-escaped g.W.Write.write_str_gives (g.T.Display.output c.args.value.now) c.args.target c.args.f.now _ c.new-g.result _ c.into_inner-inner.result c.write-result.result
    c.new-g.ensures.plain (ap (λ s. s.target) given) (ap (λ s. s.inner.now) given) c.into_inner-inner.ensures
    (λ same. let name = same ∙ ap (λ s. s.inner.ghost_name) given in search rules)
    c.write-result.ensures.writes
