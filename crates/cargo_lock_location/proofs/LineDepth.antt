-- How deep the number of a line nests in JSON.
use Rattle.std.proofs.Common.{◌≤◌, ℕ, None, Option, Some, arith}
use Rattle.json.specs.Tree.{depth}
use Rattle.cargo_lock_location.specs.Located.{line_or_null}

pub line-depth : (line : Option ℕ) → depth (line_or_null line) ≤ 0
line-depth None = omega arith
line-depth (Some n) = omega arith
