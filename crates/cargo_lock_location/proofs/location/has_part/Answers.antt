use Rattle.std.proofs.Common.{◌∙◌, ap, arith, drop, eqb, sym}
use Rattle.std.specs.List.{starts_with}
use Rattle.std.proofs.lemmas.List.{drop_all}
use Rattle.cargo_lock_location.specs.Location.{is_part}
use Rattle.cargo_lock_location.proofs.Walks.{empty-part, part-here, part-later, rest-from}
use Rattle.cargo_lock_location.proofs.location.has_part.Goals as goal

pub returns-then-starts_with : goal.returns-then-starts_with
returns-then-starts_with c =
    let text = c.args.text.now in
    let n = c.loop-start.start in
    sym (part-here c.args.part.now (drop n text) (ap (λ s. starts_with eqb s c.args.part.now) (sym (rest-from text n))
    ∙ sym c.starts_with.ensures.value ∙ c.if-starts_with.true)) ∙ c.loop-start.invariant

pub loop-start-preserved : goal.loop-start-preserved
loop-start-preserved c =
    let text = c.args.text.now in
    let n = c.loop-start.start in
    sym (part-later c.args.part.now text n (omega arith) (ap (λ s. starts_with eqb s c.args.part.now) (sym (rest-from text n))
    ∙ sym c.starts_with.ensures.value ∙ c.if-starts_with.false)) ∙ c.loop-start.invariant

pub returns : goal.returns
returns c = c.is_empty.ensures ∙ empty-part c.args.part.now
    ∙ ap (is_part c.args.part.now) (sym (drop_all c.loop-start.start c.args.text.now (omega arith))) ∙ c.loop-start.invariant
