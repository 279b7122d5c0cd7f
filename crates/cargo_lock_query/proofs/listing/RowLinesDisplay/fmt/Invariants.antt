use Rattle.std.proofs.Common.{map, take}
use Rattle.std.specs.Fmt.{HasWritten, IsPlainFormatter}
use Rattle.std.specs.List.{flat_map}
use Rattle.cargo_lock_query.specs.Listing.{row_line, row_of}
use Rattle.cargo_lock_query.proofs.listing.RowLinesDisplay.fmt.Given as goal

abbrev pub invariant-loop-row : goal.invariant-loop-row
invariant-loop-row g l = IsPlainFormatter l.initial.f → HasWritten g.W.Write.write_str_gives l.initial.f
    (flat_map (row_line l.width) (map row_of (take l.row-index l.row-items))) l.f
