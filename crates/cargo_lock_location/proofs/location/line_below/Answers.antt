use Rattle.std.proofs.Common.{◌∙◌, ap, map}
use Rattle.cargo_lock_location.specs.Location.{line_above}
use Rattle.cargo_lock_location.proofs.location.line_below.Goals as goal

pub returns : goal.returns
returns c = c.line_above.ensures
    ∙ ap (λ wanted. line_above (map (λ l. l.now) c.args.lines.now) wanted c.args.place) (c.deref.ensures ∙ c.in_ok-wanted.ensures)
