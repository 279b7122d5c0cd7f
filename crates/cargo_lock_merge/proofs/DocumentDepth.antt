-- The depth of the document of a merge.
use Rattle.std.proofs.Common.{◌≤◌, ℕ, Bool, true, false, List, Option, None, Some, arith, cond, option_map}
use Rattle.std.specs.Borrow.{Bor}
use Rattle.json.specs.Tree.{depth}
use Rattle.cargo_lock_display.proofs.Depth.{identity-depth, package-depth}
use Rattle.cargo_lock_merge.specs.Document.{ConflictData, alarm_json, choice_json, conflict_json, merge_parts_json, item_data, item_json, matter_of, merge_document, moved_json, name_or_null, notice_json, is_loss, pair_json, pair_or_null, version_or_null}
use Rattle.cargo_lock_merge.specs.declared.document.Document.{Document}
use Rattle.cargo_lock_merge.specs.declared.document.Item.{Item}
use Rattle.cargo_lock_merge.specs.declared.moved.Moved.{Moved}
use Rattle.cargo_lock_merge.specs.declared.notice.Notice.{Notice}
use Rattle.cargo_lock_merge_core.specs.declared.conflicts.Conflict as merging
use Rattle.cargo_lock_merge_core.specs.declared.moved.Reference.{Reference}
use Rattle.cargo_lock_merge_core.specs.Conflicts.{now_if}
use Rattle.cargo_lock_parts.specs.Identity.{PackageData, identity_of}
use Rattle.printing.proofs.Depth.{array-depth, text-depth}

conflict-depth : (c : ConflictData) → depth (conflict_json c) ≤ 4
unfolding conflict_json
conflict-depth c = omega (
  arith,
  package-depth c.base,
  package-depth c.ours,
  package-depth c.theirs,
  text-depth c.source,
  text-depth c.key,
)

reference-depth : (r : Option Reference) → depth (pair_or_null r) ≤ 4
unfolding pair_json
reference-depth None = omega arith
reference-depth (Some r) = omega (
  arith,
  identity-depth (identity_of r.from.now) None,
  identity-depth (identity_of r.to.now) None,
)

moved-depth : (r : Moved) → depth (moved_json r) ≤ 5
unfolding moved_json
moved-depth r = omega (
  arith,
  identity-depth (identity_of r.found.merged.from.now) None,
  identity-depth (identity_of r.found.merged.to.now) None,
  reference-depth r.found.ours,
  reference-depth r.found.theirs,
)

name-depth : (p : Option (Bor PackageData)) → depth (name_or_null p) ≤ 0
name-depth None = omega arith
name-depth (Some p) = omega arith

version-depth : (p : Option (Bor PackageData)) → depth (version_or_null p) ≤ 0
version-depth None = omega arith
version-depth (Some p) = omega arith

choice-depth : (c : merging.Conflict) → depth (choice_json c) ≤ 4
unfolding choice_json
choice-depth c = omega (
  arith,
  name-depth c.ours,
  version-depth c.ours,
  version-depth c.theirs,
  version-depth c.chosen,
)

alarm-depth : (c : merging.Conflict) → depth (alarm_json c) ≤ 4
unfolding alarm_json
alarm-depth c = omega (arith, package-depth (now_if c.base))

either-depth : (alarm : Bool) (c : merging.Conflict) → depth (cond alarm (alarm_json c) (choice_json c)) ≤ 4
either-depth true c = alarm-depth c
either-depth false c = choice-depth c

notice-depth : (n : Notice) → depth (notice_json (matter_of n)) ≤ 4
notice-depth n = either-depth (is_loss (matter_of n)) (matter_of n)

pub document-depth : (d : Document) → depth (merge_parts_json d) ≤ 7
unfolding merge_document
document-depth d = omega (
  arith,
  text-depth (option_map (λ (t : Bor (List ℕ)). t.now) d.message),
  text-depth (option_map (λ (t : Bor (List ℕ)). t.now) d.comments),
  array-depth 4 item_json (λ (i : Item). conflict-depth (item_data i)) d.conflicts.now,
  array-depth 5 moved_json moved-depth d.moved.now,
  array-depth 4 (λ (n : Notice). notice_json (matter_of n)) notice-depth d.versions.now,
  array-depth 4 (λ (n : Notice). notice_json (matter_of n)) notice-depth d.alarms.now,
)
