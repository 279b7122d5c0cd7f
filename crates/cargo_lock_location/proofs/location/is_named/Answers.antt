use Rattle.std.proofs.Common.{[], ◌∙◌, Bor, List, ap, arith, codes, eqb, map, sym, ℕ}
use Rattle.std.specs.List.{starts_with}
use Rattle.std.proofs.lemmas.List.{drop_all}
use Rattle.cargo_lock_location.specs.Location.{is_among}
use Rattle.cargo_lock_location.proofs.Walks.{named-ends, named-later}
use Rattle.cargo_lock_location.proofs.location.is_named.Goals as goal

pub returns-then-starts_with : goal.returns-then-starts_with
returns-then-starts_with c =
    let l = c.loop-line in
    let d : Bor (List ℕ) = record { ref_ptr = (0, 0); now = [] } in
    sym (named-ends c.args.wanted.now c.args.lines.now l.line-index d c.loop-line-test.true
    (ap (λ s. starts_with eqb s (codes "[")) (sym c.as_bytes.ensures.value) ∙ sym c.starts_with.ensures.value ∙ c.if-starts_with.true)) ∙ l.invariant

pub loop-line-preserved : goal.loop-line-preserved
loop-line-preserved c =
    let l = c.loop-line in
    let d : Bor (List ℕ) = record { ref_ptr = (0, 0); now = [] } in
    sym (named-later c.args.wanted.now c.args.lines.now l.line-index d c.loop-line-test.true
    (ap (λ s. starts_with eqb s (codes "[")) (sym c.as_bytes.ensures.value) ∙ sym c.starts_with.ensures.value ∙ c.if-starts_with.false) (sym c.eq.ensures ∙ c.if-eq.false)) ∙ l.invariant

pub returns : goal.returns
returns c = ap (λ ls. is_among c.args.wanted.now (map (λ line. line.now) ls)) (sym (drop_all c.loop-line.line-index c.args.lines.now (omega arith)))
    ∙ c.loop-line.invariant
