use Rattle.std.proofs.Common.{◌≡◌, map, take, All}
use Rattle.cargo_lock_merge_core.specs.Entries.{IsMergeEntry}
use Rattle.cargo_lock_merge_core.proofs.plan.entries_of.Given as goal

abbrev pub invariant-loop-row : goal.invariant-loop-row
invariant-loop-row l = record {
  rows : map (λ e. e.row) l.all.items ≡ take l.row-index l.rows;
  each : All (IsMergeEntry l.commits) l.all.items;
}
