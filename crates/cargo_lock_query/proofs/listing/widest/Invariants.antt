use Rattle.std.proofs.Common.{map, take}
use Rattle.cargo_lock_query.specs.Listing.{IsWidest, row_of}
use Rattle.cargo_lock_query.proofs.listing.widest.Given as goal

-- the widest so far
abbrev pub invariant-loop-row : goal.invariant-loop-row
invariant-loop-row l = IsWidest (map row_of (take l.row-index l.rows)) l.width
