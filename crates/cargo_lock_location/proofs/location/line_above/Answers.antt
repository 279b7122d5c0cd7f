use Rattle.std.proofs.Common.{◌∙◌, ◌+◌, Bor, List, ℕ, ap, map, sym}
use Rattle.cargo_lock_location.specs.Location.{is_among}
use Rattle.cargo_lock_location.proofs.Walks.{above-found, above-none, above-past, rest-from}
use Rattle.cargo_lock_location.proofs.location.line_above.Goals as goal

pub returns-then-place-lines : goal.returns-then-place-lines
returns-then-place-lines c = above-past c.args.lines.now c.args.wanted.now c.args.place c.if-place-lines.true

pub returns-then-is_named : goal.returns-then-is_named
returns-then-is_named c =
    let lines = c.args.lines.now in
    above-found lines c.args.wanted.now c.args.place
    (ap (λ (ls : List (Bor (List ℕ))). is_among c.args.wanted.now (map (λ l. l.now) ls)) (sym (rest-from lines (c.args.place + 1)))
    ∙ sym c.is_named.ensures ∙ c.if-is_named.true)

pub returns : goal.returns
returns c =
    let lines = c.args.lines.now in
    above-none lines c.args.wanted.now c.args.place
    (ap (λ (ls : List (Bor (List ℕ))). is_among c.args.wanted.now (map (λ l. l.now) ls)) (sym (rest-from lines (c.args.place + 1)))
    ∙ sym c.is_named.ensures ∙ c.if-is_named.false)
