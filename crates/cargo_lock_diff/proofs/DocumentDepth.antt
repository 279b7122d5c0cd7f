-- The depth of the document of a difference.
use Rattle.std.proofs.Common.{◌≤◌, ℕ, List, Option, arith, map}
use Rattle.json.specs.Tree.{depth}
use Rattle.cargo_lock_diff.specs.Change.{ChangeData, change_of}
use Rattle.cargo_lock_diff.specs.declared.change.Change.{Change}
use Rattle.cargo_lock_diff.specs.declared.summary.Summary.{Summary}
use Rattle.cargo_lock_diff.specs.Document.{added_of, change_json, counts_json, difference_document, located_change_json, new_of, old_of, removed_of}
use Rattle.cargo_lock_display.specs.File.{FileData}
use Rattle.cargo_lock_display.proofs.Depth.{dependencies-depth, file-depth, package-depth}
use Rattle.cargo_lock_location.proofs.LineDepth.{line-depth}
use Rattle.cargo_lock_location.specs.declared.located.Located.{Located}
use Rattle.printing.proofs.Depth.{array-depth}

counts-depth : (s : Summary) → depth (counts_json s) ≤ 1
unfolding counts_json
counts-depth s = omega arith

change-depth : (line : Option ℕ) (c : ChangeData) → depth (change_json line c) ≤ 5
unfolding change_json
change-depth line c = omega (
  arith,
  line-depth line,
  package-depth (old_of c),
  package-depth (new_of c),
  dependencies-depth (removed_of c),
  dependencies-depth (added_of c),
)

pub difference-depth : (old new : FileData) (s : Summary) (changes : List (Located Change))
    → depth (difference_document old new s (map located_change_json changes)) ≤ 7
unfolding difference_document
difference-depth old new s changes = omega (
  arith,
  file-depth old,
  file-depth new,
  counts-depth s,
  array-depth 5 located_change_json (λ (l : Located Change). change-depth l.line (change_of l.found.now)) changes,
)
