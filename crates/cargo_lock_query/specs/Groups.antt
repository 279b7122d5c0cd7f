-- Names by which packages are put into groups. No public contract cites these.
use Rattle.std.specs.Prelude.{ℕ, List}
use Rattle.std.specs.Borrow.{Bor}
use Rattle.std.specs.Cmp.Lexicographic.{slice_cmp}
use Rattle.std.specs.Ordering.{nat_cmp}
use Rattle.std.specs.declared.cmp.Ordering.{Ordering}
use Rattle.cargo_lock_parts.specs.Identity.{PackageData}
use Rattle.cargo_lock_query.specs.Duplicates.{HasNameAt}

-- names compare byte by byte
abbrev pub name_cmp : Bor (List ℕ) → Bor (List ℕ) → Ordering
name_cmp a b = slice_cmp nat_cmp a.now b.now

-- the package at the place has the name
abbrev pub IsNamedBy : List PackageData → ℕ → Bor (List ℕ) → Type 0
IsNamedBy packages place name = HasNameAt packages name.now place
