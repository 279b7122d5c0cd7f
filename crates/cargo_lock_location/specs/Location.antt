-- In which line of its text each package of a lockfile begins. The lines of a text show it where it is
-- laid out as Cargo lays it out: each package begins with a line of its own, and no text goes over
-- several lines.
use Rattle.std.specs.Prelude.{◌≡◌, ◌+◌, ◌<◌, ◌++◌, ◌&&◌, ◌||◌, [], ◌∷◌, ℕ, Bool, List, Option, None}
use Rattle.std.specs.Prelude.{Some, bytes_eq, codes, drop, eqb, false, if◌then◌else◌, length, map}
use Rattle.std.specs.Prelude.{nat_eq, not, slice_get, true}
use Rattle.std.specs.List.{list_all, starts_with}

-- the line that begins a package
abbrev pub package_header : List ℕ
package_header = codes "[[package]]"

-- the line that begins an unused patch
abbrev pub patch_header : List ℕ
patch_header = codes "[[patch.unused]]"

-- the line begins a package
abbrev pub is_package_header : List ℕ → Bool
is_package_header line = bytes_eq line package_header

-- some part of the text is this one
abbrev pub is_part : List ℕ → List ℕ → Bool
is_part part [] = starts_with eqb [] part
is_part part (c ∷ rest) = starts_with eqb (c ∷ rest) part || is_part part rest

-- a text of several lines may begin or end in the line
abbrev pub has_quotes : List ℕ → Bool
has_quotes line = is_part (codes "\"\"\"") line || is_part (codes "'''") line

-- the byte is a space or a tab, the white space of TOML within a line
abbrev pub is_blank : ℕ → Bool
is_blank c = nat_eq c 32 || nat_eq c 9

-- the line without the white space at its begin
abbrev pub without_blanks : List ℕ → List ℕ
without_blanks [] = []
without_blanks (c ∷ rest) = if is_blank c then without_blanks rest else c ∷ rest

-- the line begins a table of an array that is neither a package nor an unused patch, or that is one
-- which is not written as Cargo writes it
abbrev pub begins_other : List ℕ → Bool
begins_other line = starts_with eqb (without_blanks line) (codes "[[")
    && not (is_package_header line || bytes_eq line patch_header)

-- nothing in the line hides where packages begin
abbrev pub is_clear : List ℕ → Bool
is_clear line = not (has_quotes line || begins_other line)

-- the line that has the name of a package
abbrev pub name_line : List ℕ → List ℕ
name_line name = codes "name = \"" ++ (name ++ codes "\"")

-- this line is among these before the next one that begins with a bracket
abbrev pub is_among : List ℕ → List (List ℕ) → Bool
is_among wanted [] = false
is_among wanted (line ∷ rest) =
    not (starts_with eqb line (codes "[")) && (bytes_eq line wanted || is_among wanted rest)

-- the number of the line at a place, if this line stands below it
abbrev pub line_above : List (List ℕ) → List ℕ → ℕ → Option ℕ
line_above lines wanted place =
    if is_among wanted (drop (place + 1) lines) then Some (place + 1) else None

-- the same, if the name stands below it
abbrev pub line_below : List (List ℕ) → List ℕ → ℕ → Option ℕ
line_below lines name = line_above lines (name_line name)

-- the same, if there is such a place
abbrev pub line_of_header : List (List ℕ) → List ℕ → Option ℕ → Option ℕ
line_of_header lines name None = None
line_of_header lines name (Some place) = line_below lines name place

-- the places of the lines that begin packages, where the first of these lines has this place
abbrev pub headers_from : ℕ → List (List ℕ) → List ℕ
headers_from n [] = []
headers_from n (line ∷ rest) =
    if is_package_header line then n ∷ headers_from (n + 1) rest else headers_from (n + 1) rest

-- the lines show where so many packages begin
abbrev pub shows_each : List (List ℕ) → ℕ → Bool
shows_each lines count =
    nat_eq (length (headers_from 0 lines)) count && list_all is_clear lines

-- the place of the line that begins the package at a place, if the lines show it
abbrev pub header_of : Bool → List (List ℕ) → ℕ → Option ℕ
header_of shown lines k = if shown then slice_get (headers_from 0 lines) k else None

-- the number of the line of a package that this line begins, if both are there: its name, and the line
abbrev pub line_of_name : List (List ℕ) → Option (List ℕ) → Option ℕ → Option ℕ
line_of_name lines None header = None
line_of_name lines (Some name) header = line_of_header lines name header

-- the number of the line of each of the packages with these names, if the lines show it; the first of
-- them is at this place among the packages
abbrev pub numbers_from : ℕ → Bool → List (List ℕ) → List (Option (List ℕ)) → List (Option ℕ)
numbers_from k shown lines [] = []
numbers_from k shown lines (name ∷ rest) =
    line_of_name lines name (header_of shown lines k) ∷ numbers_from (k + 1) shown lines rest

-- the number of the line in which each of the packages begins that have these names, as far as they
-- have one, if it is known
abbrev pub lines_of_names : List (List ℕ) → List (Option (List ℕ)) → List (Option ℕ)
lines_of_names lines names = numbers_from 0 (shows_each lines (length names)) lines names

-- the same of packages that have a name each
abbrev pub lines_of_packages : List (List ℕ) → List (List ℕ) → List (Option ℕ)
lines_of_packages lines names = lines_of_names lines (map Some names)

-- ---- the same as relations

-- the name of the package stands among these lines, before the first that begins with a bracket
pub record IsNamedBelow (lines : List (List ℕ)) (name : List ℕ) : Type 0 where
  pub place : ℕ
  pub is : slice_get lines place ≡ Some (name_line name)
  pub between : (j : ℕ) (line : List ℕ) → j < place + 1 → slice_get lines j ≡ Some line
      → starts_with eqb line (codes "[") ≡ false

-- the package with this name, at a place among so many, begins in the line with this number, from 1
-- on: it is the line that has this place among those that begin packages, of which there are as many as
-- packages; no line hides one, and the name of the package stands below it
pub record IsLineOf (lines : List (List ℕ)) (count k : ℕ) (name : List ℕ) (n : ℕ) : Type 0 where
  pub as_many : length (headers_from 0 lines) ≡ count
  pub clear : (j : ℕ) (line : List ℕ) → slice_get lines j ≡ Some line → is_clear line ≡ true
  pub place : ℕ
  pub is_kth : slice_get (headers_from 0 lines) k ≡ Some place
  pub next : n ≡ place + 1
  pub named : IsNamedBelow (drop n lines) name

-- a number is that of the line of the package, and without one no line is
abbrev pub IsLineIf : List (List ℕ) → ℕ → ℕ → List ℕ → Option ℕ → Type 0
IsLineIf lines count k name None = (n : ℕ) → ¬ IsLineOf lines count k name n
IsLineIf lines count k name (Some n) = IsLineOf lines count k name n

-- the same of a package that may have no name, and then no line
abbrev pub IsLineIfNamed : List (List ℕ) → ℕ → ℕ → Option (List ℕ) → Option ℕ → Type 0
IsLineIfNamed lines count k None found = found ≡ None
IsLineIfNamed lines count k (Some name) found = IsLineIf lines count k name found

-- ---- laws

-- each package has the number of its line, and one of which no line is has none
abbrev pub LinesAreThoseOfPackages : Type 0
LinesAreThoseOfPackages = (lines names : List (List ℕ)) (k : ℕ) (name : List ℕ) (found : Option ℕ)
    → slice_get names k ≡ Some name → slice_get (lines_of_packages lines names) k ≡ Some found
    → IsLineIf lines (length names) k name found

-- the same of packages that may have no name
abbrev pub LinesAreThoseOfNames : Type 0
LinesAreThoseOfNames = (lines : List (List ℕ)) (names : List (Option (List ℕ))) (k : ℕ)
    (name : Option (List ℕ)) (found : Option ℕ) → slice_get names k ≡ Some name
    → slice_get (lines_of_names lines names) k ≡ Some found
    → IsLineIfNamed lines (length names) k name found

-- there is an answer for each package
abbrev pub EachPackageIsAnswered : Type 0
EachPackageIsAnswered = (lines names : List (List ℕ))
    → length (lines_of_packages lines names) ≡ length names

-- the line with the number of a package is the one that begins it
abbrev pub LinesBeginPackages : Type 0
LinesBeginPackages = (lines names : List (List ℕ)) (k place : ℕ)
    → slice_get (lines_of_packages lines names) k ≡ Some (Some (place + 1))
    → slice_get lines place ≡ Some package_header
