use Rattle.std.proofs.Common.{◌∙◌, arith, sym}
use Rattle.std.proofs.lemmas.Bool.{eqb-true}
use Rattle.cli.proofs.several.Several.ended.Goals as goal

pub returns-then-is_empty-clause-unread : goal.returns-then-is_empty-clause-unread
returns-then-is_empty-clause-unread c some =
    let e = eqb-true c.args.self.faults.len 0 (sym c.is_empty.ensures ∙ c.if-is_empty.true) in
    let ok = c.args.self.faults.ok.0 in
    absurd (some (omega (arith, e, ok)))
