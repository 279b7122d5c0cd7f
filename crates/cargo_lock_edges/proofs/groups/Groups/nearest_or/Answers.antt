use Rattle.std.proofs.Common.{inl, inr, refl}
use Rattle.cargo_lock_edges.proofs.groups.Groups.nearest_or.Goals as goal

pub returns-in-Some : goal.returns-in-Some
returns-in-Some c = inl c.in-Some.ensures

pub returns-in-None : goal.returns-in-None
returns-in-None c = inr (c.in-None.ensures, refl)
