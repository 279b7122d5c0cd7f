use Rattle.std.proofs.Common.{◌∙◌, ap, arith, sym}
use Rattle.std.proofs.lemmas.List.{drop_all}
use Rattle.cargo_lock_location.specs.Location.{without_blanks}
use Rattle.cargo_lock_location.proofs.Walks.{blank-ends, blank-later, rest-from}
use Rattle.cargo_lock_location.proofs.location.without_blanks.Goals as goal

pub returns-then-not-is_blank : goal.returns-then-not-is_blank
returns-then-not-is_blank c =
    let line = c.args.line.now in
    let n = c.loop-start.start in
    rest-from line n ∙ sym (blank-ends line n (omega arith) (sym c.is_blank.ensures ∙ c.if-not-is_blank.true)) ∙ c.loop-start.invariant

pub loop-start-preserved : goal.loop-start-preserved
loop-start-preserved c =
    sym (blank-later c.args.line.now c.loop-start.start (omega arith) (sym c.is_blank.ensures ∙ c.if-not-is_blank.false)) ∙ c.loop-start.invariant

pub returns : goal.returns
returns c = ap without_blanks (sym (drop_all c.loop-start.start c.args.line.now (omega arith))) ∙ c.loop-start.invariant
