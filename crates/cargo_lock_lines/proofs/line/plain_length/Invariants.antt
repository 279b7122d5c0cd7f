use Rattle.std.proofs.Common.{◌≡◌, ◌≤◌, ◌-◌, true, length, take}
use Rattle.std.specs.List.{list_all}
use Rattle.cargo_lock_lines.specs.Quoting.{is_plain_byte}
use Rattle.cargo_lock_lines.proofs.line.plain_length.Given as goal

abbrev pub invariant-loop-count : goal.invariant-loop-count
invariant-loop-count l = (l.count ≤ length l.bytes) × (list_all is_plain_byte (take l.count l.bytes) ≡ true)

abbrev pub decreases-loop-count : goal.decreases-loop-count
decreases-loop-count l = length l.bytes - l.count
