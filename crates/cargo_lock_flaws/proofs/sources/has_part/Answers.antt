use Rattle.std.proofs.Common.{◌≤◌, ◌+◌, length, refl, arith}
use Rattle.std.proofs.lemmas.Bool.{false≢true}
use Rattle.cargo_lock_flaws.proofs.Parts.{not-here, part-here, part-nowhere}
use Rattle.cargo_lock_flaws.proofs.sources.has_part.Goals as goal

pub returns-then-starts_with : goal.returns-then-starts_with
returns-then-starts_with c =
    let here = part-here c.args.text.now c.args.part.now c.loop-start.start _ c.starts_with.ensures.value c.if-starts_with.true in
    (λ h. here, λ h. refl)

pub loop-start-preserved : goal.loop-start-preserved
loop-start-preserved c = not-here c.args.text.now c.args.part.now c.loop-start.start _ c.starts_with.ensures.value c.if-starts_with.false c.loop-start.invariant

pub returns-else-starts_with : goal.returns-else-starts_with
returns-else-starts_with c =
    let text = c.args.text.now in
    let last : length text ≤ c.loop-start.start = omega arith in
    let none = not-here text c.args.part.now c.loop-start.start _ c.starts_with.ensures.value c.if-starts_with.false c.loop-start.invariant in
    (λ h. absurd (false≢true h), λ h. absurd (part-nowhere text c.args.part.now (c.loop-start.start + 1) (omega (arith, last)) none h))
