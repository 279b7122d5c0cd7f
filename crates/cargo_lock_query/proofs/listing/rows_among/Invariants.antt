use Rattle.std.proofs.Common.{◌≡◌, map, take}
use Rattle.std.specs.List.{filter_map}
use Rattle.cargo_lock_query.specs.Listing.{row_for, row_of}
use Rattle.cargo_lock_query.proofs.listing.rows_among.Given as goal

-- the rows so far
abbrev pub invariant-loop-one : goal.invariant-loop-one
invariant-loop-one l = map row_of l.rows.items ≡ filter_map (row_for l.graph.packages) (take l.one-index l.group)
