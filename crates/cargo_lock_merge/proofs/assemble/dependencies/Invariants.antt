use Rattle.std.proofs.Common.{◌↔◌, ℕ, map, take}
use Rattle.std.specs.List.{Contains}
use Rattle.std.specs.List.Sorted.{IsStrictlyIncreasing}
use Rattle.cargo_lock_parts.specs.Identity.{Identity}
use Rattle.cargo_lock_merge_core.specs.Assembled.{IsIdentityAt}
use Rattle.cargo_lock_merge_core.specs.Merged.{merged_data}
use Rattle.cargo_lock_merge.proofs.Once.{AreSoFar}
use Rattle.cargo_lock_merge.proofs.assemble.dependencies.Given as goal

abbrev pub invariant-loop-place : goal.invariant-loop-place
invariant-loop-place l = record {
  listed : (i : Identity) → Contains l.all.items i ↔ ((n : ℕ) × Contains (take l.place-index l.at) n × IsIdentityAt (map merged_data l.merged) n i);
  once : IsStrictlyIncreasing l.at → AreSoFar (map merged_data l.merged) l.at l.place-index l.all.items;
}
