use Rattle.std.proofs.Common.{◌≡◌, Option, map, take, ℕ}
use Rattle.cargo_lock_location.proofs.located.locate.Given as goal

-- what is found so far, each with its line
abbrev pub invariant-loop-found : goal.invariant-loop-found
invariant-loop-found g l = map {B = g.row.T.Denot × Option ℕ} (λ x. (x.found.now, x.line)) l.located.items
    ≡ map (λ f. (f, g.T.Lined.line_in l.lines f)) (take l.found-index l.all)
