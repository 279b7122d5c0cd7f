-- What a search for the nodes to which edges lead from a start has found.
use Rattle.std.specs.Prelude.{◌≡◌, ℕ, Bool, true, List}
use Rattle.cargo_lock_parts.specs.Identity.{PackageData}
use Rattle.lists.specs.Marks.{IsMarked}
use Rattle.cargo_lock_bom.specs.Root.{is_member}

-- each package of the workspace has a mark
abbrev pub HaveMarks : List PackageData → List Bool → Type 0
HaveMarks packages marks = (k : ℕ) → is_member packages k ≡ true → IsMarked marks k
