use Rattle.std.proofs.Common.{map, take}
use Rattle.std.specs.Fmt.{HasWritten, IsPlainFormatter}
use Rattle.std.specs.List.{flat_map}
use Rattle.cargo_lock_query.specs.Tally.{group_of_rows, group_text}
use Rattle.cargo_lock_query.proofs.tally.GroupLinesDisplay.fmt.Given as goal

abbrev pub invariant-loop-group : goal.invariant-loop-group
invariant-loop-group g l = IsPlainFormatter l.initial.f → HasWritten g.W.Write.write_str_gives l.initial.f
    (flat_map group_text (map group_of_rows (take l.group-index l.group-items))) l.f
